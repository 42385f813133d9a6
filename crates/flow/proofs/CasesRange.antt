-- The ranges for 19 of what a session holds: computed. Each field's last good value and first bad one. Assumes nothing.
use Prim.Native.Nat.{ℕ}
use mathlib.Core.Path.{◌≡◌, refl}
use mathlib.Core.List.{List, [], ◌∷◌, ◌++◌, map}
use mathlib.Core.Bool.{Bool, true, false}
use lib.ListN.{replicate}
use Rattle.sdp.specs.Direction.{sendrecv}
use Rattle.sdp.specs.Media.{audio_kind, video_kind, other_kind, rtp_avp, udp}
use Rattle.flow.specs.declared.Way.{Way}
use Rattle.flow.specs.declared.Component.{Component}
use Rattle.flow.specs.declared.Held.{Held}
use Rattle.flow.specs.Range.{no_settings, is_class, component_in, is_no_component, component_at, held_rates, held_in, media_at}
use Rattle.flow.proofs.Computing.{computing}
use Rattle.flow.proofs.CasesHeld.{way, component, zeros, after}
use Rattle.flow.proofs.CasesStatus.{says}

-- "kinds, statuses and classes those named here, class also 0"
pub class_range : map is_class (0 ∷ 1 ∷ 2 ∷ 3 ∷ 4 ∷ 5 ∷ 6 ∷ 7 ∷ 8 ∷ 9 ∷ 10 ∷ [])
    ≡ (true ∷ false ∷ true ∷ false ∷ true ∷ false ∷ true ∷ false ∷ true ∷ true ∷ false ∷ [])
unfolding computing
class_range = refl

-- all zeros
pub zero_settings : no_settings
    ≡ record { media = record { up = 0; down = 0 }; rtcp = record { up = 0; down = 0 }; pool = record { up = 0; down = 0 } }
unfolding computing
zero_settings = refl

-- a component by kind, transport, status and class, its ways all zeros
abbrev plain : ℕ × ℕ × ℕ × ℕ → Component
plain k = component k.0 k.1 k.2 k.3 (way 0 0 0 0 0) (way 0 0 0 0 0)

pub component_range : (map (λ k. component_in (plain (k, rtp_avp, 2, 2))) (0 ∷ 1 ∷ 6 ∷ 7 ∷ []) ≡ (false ∷ true ∷ true ∷ false ∷ []))
    × (map (λ t. component_in (plain (other_kind, t, 2, 2))) (0 ∷ 1 ∷ 2 ∷ 3 ∷ []) ≡ (false ∷ true ∷ true ∷ false ∷ []))
    × (map (λ s. component_in (plain (audio_kind, rtp_avp, s, 2))) (0 ∷ 4 ∷ 5 ∷ []) ≡ (true ∷ true ∷ false ∷ []))
    × (map (λ c. component_in (plain (audio_kind, rtp_avp, 2, c))) (0 ∷ 1 ∷ 2 ∷ 9 ∷ 10 ∷ []) ≡ (true ∷ false ∷ true ∷ true ∷ false ∷ []))
unfolding computing
component_range = (refl, refl, refl, refl)

-- "ports to 65,535 (the media port of an RTP/AVP component to 65,534); media rates to 4,294,967,295, RTCP rates to 8,589,934,590": ways of video by
-- RTP/AVP, of audio by udp
abbrev Case : Type 0
Case = Way × Bool × Bool

abbrev cases : List Case
cases =
    (way 1 4294967295 65534 4294967295 8589934590, true, true)
    ∷ (way 0 0 0 0 0, true, true)
    ∷ (way 2 0 0 0 0, false, false)
    ∷ (way 0 4294967296 0 0 0, false, false)
    ∷ (way 0 0 65535 0 0, false, true)
    ∷ (way 0 0 65536 0 0, false, false)
    ∷ (way 0 0 0 4294967296 0, false, false)
    ∷ (way 0 0 0 0 8589934591, false, false)
    ∷ []

abbrev figures : Case → Bool × Bool
figures k = (k.1, k.2)

-- the way up, with zeros down; and the other way round
abbrev upward : Case → Bool × Bool
upward k = (component_in (component video_kind rtp_avp 2 2 k.0 (way 0 0 0 0 0)), component_in (component audio_kind udp 2 2 k.0 (way 0 0 0 0 0)))

abbrev downward : Case → Bool × Bool
downward k = (component_in (component video_kind rtp_avp 2 2 (way 0 0 0 0 0) k.0), component_in (component audio_kind udp 2 2 (way 0 0 0 0 0) k.0))

pub way_range : (map upward cases ≡ map figures cases) × (map downward cases ≡ map figures cases)
unfolding computing
way_range = (refl, refl)

-- "An unused part of a row .. is all zeros": zeros, and a 1 in each field in turn
pub unused_component : map is_no_component
    (zeros
    ∷ plain (1, 0, 0, 0)
    ∷ plain (0, 1, 0, 0)
    ∷ plain (0, 0, 1, 0)
    ∷ plain (0, 0, 0, 1)
    ∷ component 0 0 0 0 (way 1 0 0 0 0) (way 0 0 0 0 0)
    ∷ component 0 0 0 0 (way 0 1 0 0 0) (way 0 0 0 0 0)
    ∷ component 0 0 0 0 (way 0 0 1 0 0) (way 0 0 0 0 0)
    ∷ component 0 0 0 0 (way 0 0 0 1 0) (way 0 0 0 0 0)
    ∷ component 0 0 0 0 (way 0 0 0 0 1) (way 0 0 0 0 0)
    ∷ component 0 0 0 0 (way 0 0 0 0 0) (way 1 0 0 0 0)
    ∷ component 0 0 0 0 (way 0 0 0 0 0) (way 0 1 0 0 0)
    ∷ component 0 0 0 0 (way 0 0 0 0 0) (way 0 0 1 0 0)
    ∷ component 0 0 0 0 (way 0 0 0 0 0) (way 0 0 0 1 0)
    ∷ component 0 0 0 0 (way 0 0 0 0 0) (way 0 0 0 0 1)
    ∷ [])
    ≡ (true ∷ replicate 14 false)
unfolding computing
unused_component = refl

-- a good component, and a bad one
abbrev good : Component
good = plain (audio_kind, rtp_avp, 2, 2)

abbrev bad : Component
bad = plain (7, rtp_avp, 2, 2)

-- "components past the count": of one that is used, the first is tested for its ranges, the second for zeros
pub slot_range : (map (component_at (after 2 1 (good ∷ good ∷ []))) (0 ∷ 1 ∷ []) ≡ (true ∷ false ∷ []))
    × (map (component_at (after 2 1 (zeros ∷ zeros ∷ []))) (0 ∷ 1 ∷ []) ≡ (false ∷ true ∷ []))
    × (component_at (after 2 1 (bad ∷ [])) 0 ≡ false)
unfolding computing
slot_range = (refl, refl, refl)

-- the rates of all eight slots, used or not, and of no other
abbrev rate : ℕ → Component
rate up = component 0 0 0 0 (way 0 0 0 up 0) (way 0 0 0 0 0)

abbrev rate_down : ℕ → Component
rate_down down = component 0 0 0 0 (way 0 0 0 0 0) (way 0 0 0 0 down)

pub rates_of_all : map (λ l. held_rates (after 2 0 l))
    ((replicate 7 zeros ++ (rate 4294967295 ∷ []))
    ∷ (replicate 7 zeros ++ (rate 4294967296 ∷ []))
    ∷ (replicate 7 zeros ++ (rate_down 8589934590 ∷ []))
    ∷ (replicate 7 zeros ++ (rate_down 8589934591 ∷ []))
    ∷ (replicate 8 zeros ++ (rate 4294967296 ∷ []))
    ∷ [])
    ≡ (true ∷ false ∷ true ∷ false ∷ true ∷ [])
unfolding computing
rates_of_all = refl

-- "count to 8"; "count and kept class where nothing was derived since the last close"
abbrev row : ℕ → ℕ → ℕ → List Component → Held
row completed kept count components = record { completed = completed; kept = kept; count = count; components = components }

pub held_range : map held_in
    (row 0 0 0 [] ∷ row 1 0 0 [] ∷ row 2 0 0 [] ∷ row 1 9 0 [] ∷ row 1 10 0 [] ∷ row 1 2 8 (replicate 8 good) ∷ row 1 2 9 (replicate 9 good) ∷ [])
    ≡ (true ∷ true ∷ false ∷ true ∷ false ∷ true ∷ false ∷ [])
unfolding computing
held_range = refl

pub unused_held : map held_in
    (row 0 2 0 [] ∷ row 0 0 1 (good ∷ []) ∷ row 0 2 1 (good ∷ []) ∷ row 0 1 0 [] ∷ row 1 2 0 (good ∷ []) ∷ row 1 2 7 (replicate 8 good) ∷ row 1 2 1 (bad ∷ [])
    ∷ row 1 2 8 (replicate 7 good ++ (bad ∷ [])) ∷ row 1 2 8 (replicate 8 good ++ (good ∷ [])) ∷ [])
    ≡ (false ∷ false ∷ false ∷ false ∷ false ∷ false ∷ false ∷ false ∷ true ∷ [])
unfolding computing
unused_held = refl

-- "each field of an open offer what a text can give", and zeros past the count
pub offer_range : (map (media_at (record { count = 1; media = says audio_kind rtp_avp sendrecv 9 9 ∷ says audio_kind rtp_avp sendrecv 9 9 ∷ [] })) (0 ∷ 1 ∷ 2 ∷ [])
    ≡ (true ∷ false ∷ true ∷ []))
    × (media_at (record { count = 1; media = says 7 rtp_avp sendrecv 9 9 ∷ [] }) 0 ≡ false)
unfolding computing
offer_range = (refl, refl)
