-- Requested and authorised rates: computed. Assumes nothing.
use Prim.Native.Nat.{ℕ, ◌+◌}
use mathlib.Core.Path.{◌≡◌, refl}
use mathlib.Core.List.{List, [], ◌∷◌, map}
use mathlib.Core.Bool.{Bool, true, false}
use lib.ListN.{replicate}
use Rattle.sdp.specs.Direction.{sendrecv}
use Rattle.sdp.specs.Media.{audio_kind, rtp_avp, udp}
use Rattle.sdp.specs.declared.Media.{Media}
use Rattle.flow.specs.Rates.{twentieth, media_rate, rtcp_rate, way_to}
use Rattle.flow.proofs.Computing.{computing}
use Rattle.flow.proofs.CasesHeld.{way}

-- "One twentieth .. is rounded up, so RTCP is never short." (02, 7)
pub twentieths : map twentieth (0 ∷ 1 ∷ 19 ∷ 20 ∷ 21 ∷ 40 ∷ 41 ∷ 64000 ∷ 64001 ∷ 64020 ∷ 4294967000 ∷ 4294967295 ∷ [])
    ≡ (0 ∷ 1 ∷ 1 ∷ 1 ∷ 2 ∷ 2 ∷ 3 ∷ 3200 ∷ 3201 ∷ 3201 ∷ 214748350 ∷ 214748365 ∷ [])
unfolding computing
twentieths = refl

-- .. whatever is left over
abbrev left_over : List ℕ
left_over = 1 ∷ 2 ∷ 3 ∷ 4 ∷ 5 ∷ 6 ∷ 7 ∷ 8 ∷ 9 ∷ 10 ∷ 11 ∷ 12 ∷ 13 ∷ 14 ∷ 15 ∷ 16 ∷ 17 ∷ 18 ∷ 19 ∷ 20 ∷ []

pub rounded_up : (map twentieth left_over ≡ replicate 20 1) × (map (λ (n : ℕ). twentieth (64000 + n)) left_over ≡ replicate 20 3201)
unfolding computing
rounded_up = (refl, refl)

-- a rate that a text gives, or none
abbrev Rate : Type 0
Rate = ℕ × ℕ

abbrev none : Rate
none = (0, 0)

abbrev of : ℕ → Rate
of n = (1, n)

-- a text, address 9 and port 90, with a requested rate, RS and RR or without
abbrev asks : Rate → Rate → Rate → Media
asks bits rs rr =
    record {
      address = 9;
      requested = bits.1;
      rs = rs.1;
      rr = rr.1;
      port = 90;
      kind = audio_kind;
      transport = rtp_avp;
      direction = sendrecv;
      known = 1;
      requestedgiven = bits.0;
      rsgiven = rs.0;
      rrgiven = rr.0;
    }

-- "Media, per direction: 0 if not described, else the requested rate, else the media default."
pub media_rates : map (λ (k : Bool × Rate). media_rate k.0 (asks k.1 none none) 100000)
    ((false, of 64000) ∷ (false, none) ∷ (true, of 64000) ∷ (true, of 64001) ∷ (true, of 0) ∷ (true, of 1) ∷ (true, of 4294967295) ∷ (true, none) ∷ [])
    ≡ (0 ∷ 0 ∷ 64000 ∷ 64001 ∷ 0 ∷ 1 ∷ 4294967295 ∷ 100000 ∷ [])
unfolding computing
media_rates = refl

-- The rate requested by the text that the packets go to, RS and RR of the answer, and the RTCP rate, by an RTCP default of 5,000. The text has an RS and an RR
-- of its own, which are not read.
abbrev Case : Type 0
Case = Rate × Rate × Rate × ℕ

abbrev figures : Case → ℕ
figures k = k.3

abbrev told : Case → ℕ
told k = (rtcp_rate (asks none k.1 k.2) (asks k.0 (of 900000) (of 800000)) 5000).0

abbrev cases : List Case
cases =
    -- "if RS and RR are both present, their sum both ways", a requested rate or not
    (of 64000, of 800, of 2400, 3200)
    ∷ (none, of 800, of 2400, 3200)
    ∷ (of 64000, of 8000, of 9000, 17000)
    ∷ (of 64000, of 100, of 20, 120)
    ∷ (none, of 8000, of 9000, 17000)
    ∷ (none, of 100, of 20, 120)
    ∷ (of 64000, of 4294967295, of 4294967295, 8589934590)
    ∷ (of 64000, of 0, of 0, 0)
    ∷ (of 64001, of 1, of 2, 3)
    ∷ (none, of 0, of 0, 0)
    ∷ (of 64000, of 800, of 0, 800)
    ∷ (of 64000, of 0, of 800, 800)
    -- "Else, per direction, if a rate is requested: the largest of one twentieth of it and whichever of RS, RR is present."
    ∷ (of 64000, of 3199, none, 3200)
    ∷ (of 64000, of 3201, none, 3201)
    ∷ (of 64000, none, of 3199, 3200)
    ∷ (of 64000, none, of 8000, 8000)
    ∷ (of 64000, none, none, 3200)
    ∷ (of 0, none, none, 0)
    ∷ (of 64001, none, none, 3201)
    ∷ (of 64001, of 3200, none, 3201)
    ∷ (of 64001, none, of 3200, 3201)
    ∷ (of 64001, none, of 3201, 3201)
    ∷ (of 64001, none, of 3202, 3202)
    ∷ (of 64001, of 0, none, 3201)
    ∷ (of 64001, none, of 0, 3201)
    ∷ (of 64001, of 3202, none, 3202)
    ∷ (of 1, none, none, 1)
    ∷ (of 1, of 0, none, 1)
    ∷ (of 4294967295, none, none, 214748365)
    ∷ (of 64000, of 0, none, 3200)
    ∷ (of 64000, none, of 0, 3200)
    ∷ (of 0, of 7, none, 7)
    ∷ (of 0, none, of 7, 7)
    -- "Else the RTCP default.", though one of RS, RR is there
    ∷ (none, of 8000, none, 5000)
    ∷ (none, none, of 8000, 5000)
    ∷ (none, of 800, none, 5000)
    ∷ (none, of 0, none, 5000)
    ∷ (none, none, of 0, 5000)
    ∷ (none, none, of 800, 5000)
    ∷ (none, none, none, 5000)
    ∷ []

pub rtcp_rates : map told cases ≡ map figures cases
unfolding computing
rtcp_rates = refl

-- A figure beside a flag that says that it is absent is not read: no text gives one, and in a lent row it is 19.
pub absent_figures : (media_rate true (asks (0, 64000) none none) 100000 ≡ 100000)
    × ((rtcp_rate (asks none (0, 8000) (0, 9000)) (asks (of 64000) none none) 5000).0 ≡ 3200)
unfolding computing
absent_figures = (refl, refl)

-- one direction, by status, transport and whether it is described: RTCP goes to the text's address and port where media does not; "No RTCP flow: RTCP
-- 0. Removed: all 0."
pub ways : map (λ (k : ℕ × ℕ × Bool). way_to k.0 k.1 k.2 (asks (of 64000) none none) (asks none none none) 100000 5000)
    ((2, rtp_avp, true) ∷ (0, rtp_avp, false) ∷ (3, udp, true) ∷ (1, udp, false) ∷ (4, rtp_avp, true) ∷ (4, udp, false) ∷ [])
    ≡ (way 1 9 90 64000 3200 ∷ way 0 9 90 0 3200 ∷ way 1 9 90 64000 0 ∷ way 0 9 90 0 0 ∷ way 0 0 0 0 0 ∷ way 0 0 0 0 0 ∷ [])
unfolding computing
ways = refl
