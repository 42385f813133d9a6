-- Exchanges of descriptions, and what the session then holds: computed. Assumes nothing.
use Prim.Native.Nat.{ℕ, ◌+◌, ◌*◌}
use mathlib.Core.Path.{◌≡◌, refl}
use mathlib.Core.List.{List, [], ◌∷◌, ◌++◌, map}
use lib.ListN.{length, replicate}
use Rattle.sdp.specs.Direction.{sendrecv, sendonly, recvonly, inactive}
use Rattle.sdp.specs.Media.{audio_kind, video_kind, application_kind, rtp_avp, udp}
use Rattle.sdp.specs.Section.{some_rate, with_requested, with_rs, with_rr}
use Rattle.sdp.specs.declared.Media.{Media}
use Rattle.flow.specs.declared.Settings.{Settings}
use Rattle.flow.specs.declared.Was.{Was}
use Rattle.flow.specs.declared.Component.{Component}
use Rattle.flow.specs.declared.Held.{Held}
use Rattle.flow.specs.declared.Descriptions.{Descriptions}
use Rattle.flow.specs.Session.{fresh_held, held_at}
use Rattle.flow.specs.Before.{before_of}
use Rattle.flow.specs.Derive.{flows_of, slot_of, derived}
use Rattle.flow.proofs.Computing.{computing}
use Rattle.flow.proofs.CasesHeld.{way, component, zeros, was, after}
use Rattle.flow.proofs.CasesStatus.{says, talk, kinds}

-- media and RTCP defaults, all different
abbrev settings : Settings
settings = record { media = record { up = 100000; down = 200000 }; rtcp = record { up = 5000; down = 6000 }; pool = record { up = 0; down = 0 } }

-- with a requested rate
abbrev asking : ℕ → Media → Media
asking bits m = with_requested m (some_rate bits)

-- what a text says of video by RTP/AVP: the offer to address 7, port 70 and with a requested rate, the answer to address 8, port 80
abbrev offer : ℕ → Media
offer direction = asking 64000 (says video_kind rtp_avp direction 7 70)

abbrev answer : ℕ → Media
answer direction = says video_kind rtp_avp direction 8 80

abbrev with_rates : Media → ℕ → ℕ → Media
with_rates m rs rr = with_rr (with_rs m rs) rr

-- an origin, what it was, the offer, the answer, and the component before its class
abbrev Case : Type 0
Case = (ℕ × Was) × (Media × Media) × Component

abbrev figures : Case → Component
figures k = k.2

abbrev told : Case → Component
told k = flows_of settings k.0.0 k.0.1 k.1.0 k.1.1

abbrev fresh : Was
fresh = was 0 0 0 0

abbrev video : ℕ → ℕ → ℕ → ℕ → ℕ → Component
video status up up-media down down-media = component video_kind rtp_avp status 0 (way up 8 80 up-media 5000) (way down 7 70 down-media 3200)

abbrev cases : List Case
cases =
    -- "Up: AS of the downlink SDP. Down: AS of the uplink SDP.", and the destinations with them, by each origin
    ((0, fresh), (offer sendrecv, answer sendrecv), component video_kind rtp_avp 2 0 (way 1 8 80 100000 5000) (way 1 7 70 64000 3200))
    ∷ ((1, fresh), (offer sendrecv, answer sendrecv), component video_kind rtp_avp 2 0 (way 1 7 70 64000 3200) (way 1 8 80 200000 6000))
    -- .. where the answer requests a rate, alone or too; one above the default
    ∷ (
      (0, fresh),
      (says video_kind rtp_avp sendrecv 7 70, asking 20000 (answer sendrecv)),
      component video_kind rtp_avp 2 0 (way 1 8 80 20000 1000) (way 1 7 70 200000 6000),
    )
    ∷ (
      (1, fresh),
      (says video_kind rtp_avp sendrecv 7 70, asking 20000 (answer sendrecv)),
      component video_kind rtp_avp 2 0 (way 1 7 70 100000 5000) (way 1 8 80 20000 1000),
    )
    ∷ (
      (0, fresh),
      (offer sendrecv, asking 300000 (answer sendrecv)),
      component video_kind rtp_avp 2 0 (way 1 8 80 300000 15000) (way 1 7 70 64000 3200),
    )
    ∷ (
      (1, fresh),
      (offer sendrecv, asking 300000 (answer sendrecv)),
      component video_kind rtp_avp 2 0 (way 1 7 70 64000 3200) (way 1 8 80 300000 15000),
    )
    -- .. a twentieth that is not whole, rounded up, by each origin
    ∷ (
      (0, fresh),
      (asking 64001 (says video_kind rtp_avp sendrecv 7 70), asking 19 (answer sendrecv)),
      component video_kind rtp_avp 2 0 (way 1 8 80 19 1) (way 1 7 70 64001 3201),
    )
    ∷ (
      (1, fresh),
      (asking 64001 (says video_kind rtp_avp sendrecv 7 70), asking 19 (answer sendrecv)),
      component video_kind rtp_avp 2 0 (way 1 7 70 64001 3201) (way 1 8 80 19 1),
    )
    -- .. a rate of 0 is one: described, not on hold
    ∷ (
      (0, fresh),
      (asking 0 (says video_kind rtp_avp sendrecv 7 70), asking 0 (answer sendrecv)),
      component video_kind rtp_avp 2 0 (way 1 8 80 0 0) (way 1 7 70 0 0),
    )
    ∷ (
      (0, fresh),
      (asking 0 (says video_kind rtp_avp sendrecv 7 70), answer sendrecv),
      component video_kind rtp_avp 2 0 (way 1 8 80 100000 5000) (way 1 7 70 0 0),
    )
    ∷ (
      (1, fresh),
      (asking 0 (says video_kind rtp_avp sendrecv 7 70), asking 20000 (answer sendrecv)),
      component video_kind rtp_avp 2 0 (way 1 7 70 0 0) (way 1 8 80 20000 1000),
    )
    ∷ (
      (0, fresh),
      (offer sendrecv, asking 0 (answer sendrecv)),
      component video_kind rtp_avp 2 0 (way 1 8 80 0 0) (way 1 7 70 64000 3200),
    )
    ∷ (
      (1, fresh),
      (says video_kind rtp_avp sendrecv 7 70, asking 0 (answer sendrecv)),
      component video_kind rtp_avp 2 0 (way 1 7 70 100000 5000) (way 1 8 80 0 0),
    )
    -- "RS and RR: from the answer.", by each origin
    ∷ (
      (0, fresh),
      (with_rates (offer sendrecv) 1 2, with_rates (answer sendrecv) 800 2400),
      component video_kind rtp_avp 2 0 (way 1 8 80 100000 3200) (way 1 7 70 64000 3200),
    )
    ∷ (
      (1, fresh),
      (with_rates (offer sendrecv) 1 2, with_rates (answer sendrecv) 800 2400),
      component video_kind rtp_avp 2 0 (way 1 7 70 64000 3200) (way 1 8 80 200000 3200),
    )
    -- .. those of the offer are never read, also where the answer has none, or one alone
    ∷ (
      (0, fresh),
      (with_rates (offer sendrecv) 1 2, answer sendrecv),
      component video_kind rtp_avp 2 0 (way 1 8 80 100000 5000) (way 1 7 70 64000 3200),
    )
    ∷ (
      (0, fresh),
      (with_rates (offer sendrecv) 1 2, with_rr (answer sendrecv) 8000),
      component video_kind rtp_avp 2 0 (way 1 8 80 100000 5000) (way 1 7 70 64000 8000),
    )
    -- .. a lone RS or RR counts in either direction, where a rate is requested there
    ∷ (
      (0, fresh),
      (says video_kind rtp_avp sendrecv 7 70, with_rr (asking 64000 (answer sendrecv)) 8000),
      component video_kind rtp_avp 2 0 (way 1 8 80 64000 8000) (way 1 7 70 200000 6000),
    )
    ∷ (
      (0, fresh),
      (offer sendrecv, with_rs (answer sendrecv) 8000),
      component video_kind rtp_avp 2 0 (way 1 8 80 100000 5000) (way 1 7 70 64000 8000),
    )
    ∷ (
      (1, fresh),
      (offer sendrecv, with_rs (asking 20000 (answer sendrecv)) 8000),
      component video_kind rtp_avp 2 0 (way 1 7 70 64000 8000) (way 1 8 80 20000 8000),
    )
    ∷ (
      (1, fresh),
      (offer sendrecv, with_rr (asking 20000 (answer sendrecv)) 2000),
      component video_kind rtp_avp 2 0 (way 1 7 70 64000 3200) (way 1 8 80 20000 2000),
    )
    -- described by the status: the answer's, unless the offer is inactive
    ∷ ((0, fresh), (offer sendrecv, answer recvonly), video 0 1 100000 0 0)
    ∷ ((0, fresh), (offer sendrecv, answer sendonly), video 1 0 0 1 64000)
    ∷ ((0, fresh), (offer inactive, answer recvonly), video 3 1 100000 1 64000)
    ∷ ((0, fresh), (offer inactive, answer sendonly), video 3 1 100000 1 64000)
    -- removed by the answer
    ∷ ((0, fresh), (offer sendrecv, says video_kind rtp_avp sendrecv 8 0), component video_kind rtp_avp 4 0 (way 0 0 0 0 0) (way 0 0 0 0 0))
    -- "A component that had both stays with both until removed or its kind changes": it was video, or audio
    ∷ ((0, was video_kind 1 1 1), (offer sendonly, answer recvonly), video 0 1 100000 1 64000)
    ∷ ((0, was video_kind 1 1 1), (offer recvonly, answer sendonly), video 1 1 100000 1 64000)
    ∷ ((0, was audio_kind 1 1 1), (offer sendonly, answer recvonly), video 0 1 100000 0 0)
    ∷ ((0, was audio_kind 1 1 1), (offer recvonly, answer sendonly), video 1 0 0 1 64000)
    -- .. whoever offers
    ∷ (
      (1, was video_kind 1 1 1),
      (offer sendonly, answer recvonly),
      component video_kind rtp_avp 1 0 (way 1 7 70 64000 3200) (way 1 8 80 200000 6000),
    )
    ∷ (
      (1, was audio_kind 1 1 1),
      (offer sendonly, answer recvonly),
      component video_kind rtp_avp 1 0 (way 0 7 70 0 3200) (way 1 8 80 200000 6000),
    )
    -- kind, transport and port 0 are the offer's, of an answer too that 15 shuts out
    ∷ ((0, was video_kind 1 1 1), (offer sendonly, says audio_kind udp recvonly 8 80), video 0 1 100000 1 64000)
    ∷ ((0, was video_kind 1 1 1), (offer recvonly, says audio_kind udp sendonly 8 80), video 1 1 100000 1 64000)
    ∷ ((0, fresh), (says video_kind rtp_avp sendrecv 7 0, answer sendrecv), component video_kind rtp_avp 4 0 (way 0 0 0 0 0) (way 0 0 0 0 0))
    ∷ []

pub flows : map told cases ≡ map figures cases
unfolding computing
flows = refl

-- Of every kind: up only, by RTP/AVP and by udp; with both, since it had both; and disabled.
abbrev of_kind : Was → ℕ → ℕ → ℕ → Component
of_kind past direction transport kind = flows_of settings 0 past (asking 64001 (says kind transport direction 7 70)) (says kind transport recvonly 8 80)

pub of_every_kind :
    (map (of_kind fresh sendonly rtp_avp) kinds ≡ map (λ kind. component kind rtp_avp 0 0 (way 1 8 80 100000 5000) (way 0 7 70 0 3201)) kinds)
    × (map (of_kind fresh sendonly udp) kinds ≡ map (λ kind. component kind udp 0 0 (way 1 8 80 100000 0) (way 0 7 70 0 0)) kinds)
    × (map (λ kind. of_kind (was kind 1 1 1) sendonly rtp_avp kind) kinds
    ≡ map (λ kind. component kind rtp_avp 0 0 (way 1 8 80 100000 5000) (way 1 7 70 64001 3201)) kinds)
    × (map (of_kind fresh inactive rtp_avp) kinds ≡ map (λ kind. component kind rtp_avp 3 0 (way 1 8 80 100000 5000) (way 1 7 70 64001 3201)) kinds)
unfolding computing
of_every_kind = (refl, refl, refl, refl)

-- the descriptions of a text
abbrev text : List Media → Descriptions
text media = record { count = length media; media = media }

abbrev exchange_by : ℕ → Held → List Media → List Media → Held
exchange_by origin held o a = derived settings origin (before_of held) (text o) (text a)

abbrev exchange : Held → List Media → List Media → Held
exchange = exchange_by 0

-- Video, and application by udp: all that the session holds, zeros past the count. Each has its class.
pub two_held_lem : exchange fresh_held (offer sendonly ∷ says application_kind udp sendrecv 7 72 ∷ []) (answer recvonly ∷ says application_kind udp sendrecv 8 82 ∷ [])
    ≡ after 4 2
    (component video_kind rtp_avp 0 4 (way 1 8 80 100000 5000) (way 0 7 70 0 3200)
    ∷ component application_kind udp 2 2 (way 1 8 82 100000 0) (way 1 7 72 200000 0)
    ∷ replicate 6 zeros)
unfolding computing
two_held_lem = refl

-- Eight components, each by its own lines: rates, RS and RR, ports.
abbrev numbers : List ℕ
numbers = 0 ∷ 1 ∷ 2 ∷ 3 ∷ 4 ∷ 5 ∷ 6 ∷ 7 ∷ []

pub eight_held :
    exchange fresh_held (map (λ j. asking (10000 + 1000 * j) (says audio_kind rtp_avp sendrecv 7 (70 + j))) numbers)
    (map (λ j. with_rates (says audio_kind rtp_avp sendrecv 8 (80 + j)) (1000 + j) (2 * j)) numbers)
    ≡ after 2 8 (map (λ j. component audio_kind rtp_avp 2 2 (way 1 8 (80 + j) 100000 (1000 + 3 * j)) (way 1 7 (70 + j) (10000 + 1000 * j) (1000 + 3 * j))) numbers)
unfolding computing
eight_held = refl

-- No component: an exchange all the same, and the kept class stays.
pub none_held : map (λ kept. exchange (after kept 0 (replicate 8 zeros)) [] []) (0 ∷ 2 ∷ 4 ∷ [])
    ≡ map (λ kept. after kept 0 (replicate 8 zeros)) (0 ∷ 2 ∷ 4 ∷ [])
unfolding computing
none_held = refl

-- The network offers: the same text is the other side's, and the class is by the directions all the same.
pub held_by_the_network : exchange_by 1 fresh_held (offer sendonly ∷ []) (answer recvonly ∷ [])
    ≡ after 4 1 (component video_kind rtp_avp 1 4 (way 0 7 70 0 3200) (way 1 8 80 200000 6000) ∷ replicate 7 zeros)
unfolding computing
held_by_the_network = refl

-- "At each completed exchange": the kept class is by the directions as described, both ways where the offer is inactive
pub kept_by_described : (map (λ d. (exchange fresh_held (offer d ∷ []) (answer recvonly ∷ [])).kept) (sendonly ∷ sendrecv ∷ inactive ∷ []) ≡ (4 ∷ 4 ∷ 2 ∷ []))
    × (map (λ d. (held_at (exchange fresh_held (offer d ∷ []) (answer recvonly ∷ [])) 0).class) (sendonly ∷ sendrecv ∷ inactive ∷ []) ≡ (4 ∷ 4 ∷ 2 ∷ []))
unfolding computing
kept_by_described = (refl, refl)

-- The count is the offer's, of an answer too that 15 shuts out; past it a slot is empty.
abbrev off : Component
off = component video_kind rtp_avp 4 0 (way 0 0 0 0 0) (way 0 0 0 0 0)

pub offers_count : ((exchange fresh_held (answer sendrecv ∷ offer sendrecv ∷ []) (answer sendrecv ∷ [])).count ≡ 2)
    × (held_at (exchange fresh_held (answer sendrecv ∷ offer sendrecv ∷ []) (answer sendrecv ∷ [])) 1 ≡ off)
    × (held_at (exchange fresh_held (offer sendrecv ∷ []) (answer sendrecv ∷ answer sendrecv ∷ [])) 1 ≡ zeros)
    × (map (slot_of settings 0 (before_of fresh_held) (text (answer sendrecv ∷ offer sendrecv ∷ [])) (text (answer sendrecv ∷ []))) (1 ∷ 2 ∷ [])
    ≡ (off ∷ zeros ∷ []))
unfolding computing
offers_count = (refl, refl, refl, refl)

-- an offer and its answer, of each component
abbrev Texts : Type 0
Texts = List Media × List Media

-- exchanges one after the other, from a fresh session
abbrev last : Held → List Texts → Held
last held [] = held
last held (x ∷ xs) = last (exchange held x.0 x.1) xs

-- whether the media flow at slot j is described up and down; at the first slot in the end; the kept class in the end
abbrev ways_at : Held → ℕ → ℕ × ℕ
ways_at held j = ((held_at held j).up.described, (held_at held j).down.described)

abbrev ways : List Texts → ℕ × ℕ
ways xs = ways_at (last fresh_held xs) 0

abbrev kept : List Texts → ℕ
kept xs = (last fresh_held xs).kept

-- audio both ways, up, down, inactive, removed; video up; audio by udp up
abbrev both : Texts
both = (talk sendrecv 70 ∷ [], talk sendrecv 80 ∷ [])

abbrev up : Texts
up = (talk sendonly 70 ∷ [], talk recvonly 80 ∷ [])

abbrev down : Texts
down = (talk recvonly 70 ∷ [], talk sendonly 80 ∷ [])

abbrev still : Texts
still = (talk inactive 70 ∷ [], talk inactive 80 ∷ [])

abbrev gone : Texts
gone = (talk sendrecv 0 ∷ [], talk sendrecv 0 ∷ [])

abbrev video_up : Texts
video_up = (offer sendonly ∷ [], answer recvonly ∷ [])

abbrev udp_up : Texts
udp_up = (says audio_kind udp sendonly 7 70 ∷ [], says audio_kind udp recvonly 8 80 ∷ [])

-- "A component that had both stays with both until removed or its kind changes (NOTE 3).": whatever its transport, and where it had both at status 3;
-- one that never had both at once has one
pub note_3 : map ways
    ((both ∷ up ∷ [])
    ∷ (both ∷ down ∷ up ∷ [])
    ∷ (still ∷ up ∷ [])
    ∷ (both ∷ udp_up ∷ [])
    ∷ (both ∷ video_up ∷ [])
    ∷ (both ∷ video_up ∷ up ∷ [])
    ∷ (both ∷ gone ∷ up ∷ [])
    ∷ (both ∷ gone ∷ [])
    ∷ (up ∷ down ∷ [])
    ∷ (up ∷ both ∷ down ∷ [])
    ∷ [])
    ≡ ((1, 1) ∷ (1, 1) ∷ (1, 1) ∷ (1, 1) ∷ (1, 0) ∷ (1, 0) ∷ (1, 0) ∷ (0, 0) ∷ (0, 1) ∷ (1, 1) ∷ [])
unfolding computing
note_3 = refl

-- two components at once
abbrev with : Texts → Texts → Texts
with x y = (x.0 ++ y.0, x.1 ++ y.1)

-- .. each component by its own past; whoever offered then and now
pub note_3_of_each :
    (map (ways_at (last fresh_held (with up (with both up) ∷ with up (with up up) ∷ []))) (0 ∷ 1 ∷ 2 ∷ 3 ∷ []) ≡ ((1, 0) ∷ (1, 1) ∷ (1, 0) ∷ (0, 0) ∷ []))
    × (map (λ (k : ℕ × ℕ). ways_at (exchange_by k.1 (exchange_by k.0 fresh_held both.0 both.1) up.0 up.1) 0) ((0, 0) ∷ (0, 1) ∷ (1, 0) ∷ (1, 1) ∷ [])
    ≡ replicate 4 (1, 1))
unfolding computing
note_3_of_each = (refl, refl)

-- Audio up and audio both ways: class 2. The second goes: it "stays (NOTE 2)". At the next exchange none is gone: it is 4. It is 4 too where the first
-- turns into video as the second goes, or a third comes; it stays where both go.
pub note_2 : map kept
    ((with up both ∷ [])
    ∷ (with up both ∷ with up gone ∷ [])
    ∷ (with up both ∷ with up gone ∷ with up gone ∷ [])
    ∷ (with up both ∷ with video_up gone ∷ [])
    ∷ (with up both ∷ with up (with gone up) ∷ [])
    ∷ (with up both ∷ with gone gone ∷ [])
    ∷ (with up both ∷ with down gone ∷ [])
    ∷ (up ∷ both ∷ [])
    ∷ [])
    ≡ (2 ∷ 2 ∷ 4 ∷ 4 ∷ 4 ∷ 2 ∷ 2 ∷ 2 ∷ [])
unfolding computing
note_2 = refl

-- .. whoever offers; and "audio and video take the session's kept class", as it is then, each of them
pub note_2_by_the_network : (exchange_by 1 (last fresh_held (with up both ∷ [])) (with up gone).0 (with up gone).1).kept ≡ 2
unfolding computing
note_2_by_the_network = refl

pub each_takes_it : map (λ (xs : List Texts). map (λ j. (held_at (last fresh_held xs) j).class) (0 ∷ 1 ∷ 2 ∷ []))
    ((with up both ∷ [])
    ∷ (with up both ∷ with up gone ∷ [])
    ∷ (with up both ∷ with up gone ∷ with up gone ∷ [])
    ∷ (up ∷ [])
    ∷ (up ∷ both ∷ [])
    ∷ (up ∷ with up both ∷ [])
    ∷ [])
    ≡ ((2 ∷ 2 ∷ 0 ∷ []) ∷ (2 ∷ 0 ∷ 0 ∷ []) ∷ (4 ∷ 0 ∷ 0 ∷ []) ∷ (4 ∷ 0 ∷ 0 ∷ []) ∷ (2 ∷ 0 ∷ 0 ∷ []) ∷ (2 ∷ 2 ∷ 0 ∷ []) ∷ [])
unfolding computing
each_takes_it = refl
