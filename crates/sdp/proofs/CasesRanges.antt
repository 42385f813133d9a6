-- The ranges of a description, for 19: each field's last good and first bad value: computed. Assumes nothing.
use Prim.Native.Nat.{ℕ}
use mathlib.Core.Path.{◌≡◌, refl}
use mathlib.Core.List.{List, [], ◌∷◌, map}
use mathlib.Core.Bool.{Bool, true, false}
use Rattle.sdp.specs.declared.Media.{Media}
use Rattle.sdp.specs.Section.{no_media}
use Rattle.sdp.specs.Range.{from1, most_port, given_in, media_in, is_no_media}
use Rattle.sdp.proofs.Computing.{computing}

-- the fields of a description
abbrev Head : Type 0
Head = ℕ × ℕ × ℕ × ℕ

abbrev Figure : Type 0
Figure = ℕ × ℕ

-- a description of kind, transport, direction and port; and of an address, a requested rate, RS and RR, each with its flag
abbrev made : Head → Figure → Figure → Figure → Figure → Media
made h c rate rs rr =
    record {
      address = c.1;
      requested = rate.1;
      rs = rs.1;
      rr = rr.1;
      port = h.3;
      kind = h.0;
      transport = h.1;
      direction = h.2;
      known = c.0;
      requestedgiven = rate.0;
      rsgiven = rs.0;
      rrgiven = rr.0;
    }

-- a good one, and the same with one part in place of its own
abbrev head : Head
head = (2, 1, 3, 40000)

abbrev with_head : Head → Media
with_head h = made h (1, 7) (1, 64000) (1, 800) (1, 2400)

abbrev with_address : Figure → Media
with_address c = made head c (1, 64000) (1, 800) (1, 2400)

abbrev with_requested : Figure → Media
with_requested rate = made head (1, 7) rate (1, 800) (1, 2400)

abbrev with_rs : Figure → Media
with_rs rs = made head (1, 7) (1, 64000) rs (1, 2400)

abbrev with_rr : Figure → Media
with_rr rr = made head (1, 7) (1, 64000) (1, 800) rr

-- "Media kinds: audio, video, application, data, control; any other name is the kind "other"": 1 to 6
pub kinds : map media_in (with_head (0, 1, 3, 40000) ∷ with_head (1, 1, 3, 40000) ∷ with_head (6, 1, 3, 40000) ∷ with_head (7, 1, 3, 40000) ∷ [])
    ≡ false ∷ true ∷ true ∷ false ∷ []
unfolding computing
kinds = refl

-- "Transport exactly `RTP/AVP` or `udp`": 1 and 2
pub transports : map media_in (with_head (6, 0, 3, 40000) ∷ with_head (6, 1, 3, 40000) ∷ with_head (6, 2, 3, 40000) ∷ with_head (2, 3, 3, 40000) ∷ [])
    ≡ false ∷ true ∷ true ∷ false ∷ []
unfolding computing
transports = refl

-- "Direction: `a=sendrecv`, `sendonly`, `recvonly`, `inactive` .. none means sendrecv": 1 to 4
pub directions : map media_in (with_head (2, 1, 0, 40000) ∷ with_head (2, 1, 1, 40000) ∷ with_head (2, 1, 4, 40000) ∷ with_head (2, 1, 5, 40000) ∷ [])
    ≡ false ∷ true ∷ true ∷ false ∷ []
unfolding computing
directions = refl

-- "Port: .. at most 65,535, and at most 65,534 for RTP/AVP"
pub ports : map media_in
    (with_head (1, 1, 3, 0)
    ∷ with_head (2, 1, 3, 65534)
    ∷ with_head (2, 1, 3, 65535)
    ∷ with_head (1, 2, 3, 0)
    ∷ with_head (1, 2, 3, 65535)
    ∷ with_head (1, 2, 3, 65536)
    ∷ [])
    ≡ true ∷ true ∷ false ∷ true ∷ true ∷ false ∷ []
unfolding computing
ports = refl

pub most_ports : map most_port (0 ∷ 1 ∷ 2 ∷ 3 ∷ []) ≡ 65535 ∷ 65534 ∷ 65535 ∷ 65535 ∷ []
unfolding computing
most_ports = refl

-- An absent address, requested rate, RS or RR is all zeros; each has 32 bits.
abbrev up_to : ℕ → ℕ → List Figure
up_to most more = (0, 0) ∷ (0, 1) ∷ (1, 0) ∷ (1, most) ∷ (1, more) ∷ (0, more) ∷ (2, 0) ∷ (2, 1) ∷ []

abbrev verdicts : List Bool
verdicts = true ∷ false ∷ true ∷ true ∷ false ∷ false ∷ false ∷ false ∷ []

pub addresses : map (λ (f : Figure). media_in (with_address f)) (up_to 4294967295 4294967296) ≡ verdicts
unfolding computing
addresses = refl

pub requested_figures : map (λ (f : Figure). media_in (with_requested f)) (up_to 4294967295 4294967296) ≡ verdicts
unfolding computing
requested_figures = refl

pub rs_figures : map (λ (f : Figure). media_in (with_rs f)) (up_to 4294967295 4294967296) ≡ verdicts
unfolding computing
rs_figures = refl

pub rr_figures : map (λ (f : Figure). media_in (with_rr f)) (up_to 4294967295 4294967296) ≡ verdicts
unfolding computing
rr_figures = refl

-- .. the two tests by themselves
pub given : map (λ (f : Figure). given_in 9 f.0 f.1) (up_to 9 10) ≡ verdicts
unfolding computing
given = refl

pub from_1 : map (from1 4) (0 ∷ 1 ∷ 4 ∷ 5 ∷ []) ≡ false ∷ true ∷ true ∷ false ∷ []
unfolding computing
from_1 = refl

-- "An unused part of a row .. is all zeros": a 1 in any one field is not.
abbrev none : Figure
none = (0, 0)

abbrev no_head : Head
no_head = (0, 0, 0, 0)

pub unused : map is_no_media
    (no_media
    ∷ made no_head none none none none
    ∷ made (1, 0, 0, 0) none none none none
    ∷ made (0, 1, 0, 0) none none none none
    ∷ made (0, 0, 1, 0) none none none none
    ∷ made (0, 0, 0, 1) none none none none
    ∷ made no_head (1, 0) none none none
    ∷ made no_head (0, 1) none none none
    ∷ made no_head none (1, 0) none none
    ∷ made no_head none (0, 1) none none
    ∷ made no_head none none (1, 0) none
    ∷ made no_head none none (0, 1) none
    ∷ made no_head none none none (1, 0)
    ∷ made no_head none none none (0, 1)
    ∷ with_head head
    ∷ [])
    ≡ true ∷ true ∷ false ∷ false ∷ false ∷ false ∷ false ∷ false ∷ false ∷ false ∷ false ∷ false ∷ false ∷ false ∷ false ∷ []
unfolding computing
unused = refl

-- .. and no description that a text gives is
pub none_is_none : (media_in no_media ≡ false) × (media_in (with_head head) ≡ true)
unfolding computing
none_is_none = (refl, refl)
