-- Described directions, and where the packets of a flow go: computed. Assumes nothing.
use Prim.Native.Nat.{ℕ}
use mathlib.Core.Path.{◌≡◌, refl}
use mathlib.Core.List.{List, [], ◌∷◌, ◌++◌, map}
use mathlib.Core.Bool.{Bool, true, false}
use lib.ListN.{replicate}
use Rattle.sdp.specs.Media.{audio_kind, video_kind, rtp_avp, udp}
use Rattle.flow.specs.declared.Was.{Was}
use Rattle.flow.specs.declared.Component.{Component}
use Rattle.flow.specs.declared.Destinations.{Destinations}
use Rattle.flow.specs.Before.{bit}
use Rattle.flow.specs.Described.{stays_both, described_up, described_down, has_rtcp, media_to, rtcp_to}
use Rattle.flow.proofs.Computing.{computing}
use Rattle.flow.proofs.CasesHeld.{way, component, was}
use Rattle.flow.proofs.CasesStatus.{kinds}

abbrev statuses : List ℕ
statuses = 0 ∷ 1 ∷ 2 ∷ 3 ∷ 4 ∷ []

-- described up and down, at a status
abbrev ways : Bool → ℕ → Bool × Bool
ways stays status = (described_up status stays, described_down status stays)

-- "Status 2 or 3: both. 0: up. 1: down. 4: none."; where it stays with both, both "until removed"
pub directions : (map (ways false) statuses ≡ ((true, false) ∷ (false, true) ∷ (true, true) ∷ (true, true) ∷ (false, false) ∷ []))
    × (map (ways true) statuses ≡ ((true, true) ∷ (true, true) ∷ (true, true) ∷ (true, true) ∷ (false, false) ∷ []))
unfolding computing
directions = (refl, refl)

-- "A component that had both stays with both until removed or its kind changes (NOTE 3).": audio that had both, one way, or none, and audio or video
-- now
abbrev stays : Was → Bool × Bool
stays w = (stays_both w audio_kind, stays_both w video_kind)

pub stays_with_both : map stays (was audio_kind 1 1 1 ∷ was audio_kind 1 1 0 ∷ was audio_kind 1 0 1 ∷ was audio_kind 0 0 0 ∷ [])
    ≡ ((true, false) ∷ (false, false) ∷ (false, false) ∷ (false, false) ∷ [])
unfolding computing
stays_with_both = refl

-- .. of every kind, each a row, by the kind that it has now, each a column
pub stays_by_kind : map (λ old. map (λ new. bit (stays_both (was old 1 1 1) new)) kinds) kinds
    ≡ ((1 ∷ 0 ∷ 0 ∷ 0 ∷ 0 ∷ 0 ∷ [])
    ∷ (0 ∷ 1 ∷ 0 ∷ 0 ∷ 0 ∷ 0 ∷ [])
    ∷ (0 ∷ 0 ∷ 1 ∷ 0 ∷ 0 ∷ 0 ∷ [])
    ∷ (0 ∷ 0 ∷ 0 ∷ 1 ∷ 0 ∷ 0 ∷ [])
    ∷ (0 ∷ 0 ∷ 0 ∷ 0 ∷ 1 ∷ 0 ∷ [])
    ∷ (0 ∷ 0 ∷ 0 ∷ 0 ∷ 0 ∷ 1 ∷ [])
    ∷ [])
unfolding computing
stays_by_kind = refl

-- "A live RTP/AVP component has an RTCP flow"
pub rtcp_flows : (map (λ n. has_rtcp n rtp_avp) statuses ≡ (true ∷ true ∷ true ∷ true ∷ false ∷ []))
    × (map (λ n. has_rtcp n udp) statuses ≡ (false ∷ false ∷ false ∷ false ∷ false ∷ []))
unfolding computing
rtcp_flows = (refl, refl)

-- a component of this kind, transport and status, described up and down or not, to address 7 port 70 up and address 8 port 80 down
abbrev goes : ℕ → ℕ → ℕ → ℕ → ℕ → Component
goes kind transport status up down = component kind transport status 2 (way up 7 70 0 0) (way down 8 80 0 0)

abbrev to : ℕ → ℕ → ℕ → ℕ → Destinations
to a p b q = record { up = record { address = a; port = p }; down = record { address = b; port = q } }

-- described both ways, up, down, and neither way
abbrev described : List (ℕ × ℕ)
described = (1, 1) ∷ (1, 0) ∷ (0, 1) ∷ (0, 0) ∷ []

-- of each kind, by either transport: 12 in all
abbrev of_each : {A : Type 0} → (ℕ → ℕ → A) → List A
of_each f = map (λ kind. f kind rtp_avp) kinds ++ map (λ kind. f kind udp) kinds

-- "zeros where not described", of every kind, transport and status, and nowhere else
pub media_destinations : map (λ n. of_each (λ kind transport. map (λ (k : ℕ × ℕ). media_to (goes kind transport n k.0 k.1)) described)) statuses
    ≡ replicate 5 (replicate 12 (to 7 70 8 80 ∷ to 7 70 0 0 ∷ to 0 0 8 80 ∷ to 0 0 0 0 ∷ []))
unfolding computing
media_destinations = refl

-- RTCP "described both ways; each RTCP port is one above that text's own port": of every kind by RTP/AVP, by status, whatever is described of its
-- media; none by udp
abbrev rtcp : ℕ → List (List (List Destinations))
rtcp transport = map (λ kind. map (λ (k : ℕ × ℕ). map (λ n. rtcp_to (goes kind transport n k.0 k.1)) statuses) described) kinds

pub rtcp_destinations : (rtcp rtp_avp ≡ replicate 6 (replicate 4 (replicate 4 (to 7 71 8 81) ++ (to 0 0 0 0 ∷ []))))
    × (rtcp udp ≡ replicate 6 (replicate 4 (replicate 5 (to 0 0 0 0))))
unfolding computing
rtcp_destinations = (refl, refl)

-- one above an odd port, and above the largest
pub rtcp_ports : rtcp_to (component video_kind rtp_avp 2 2 (way 1 7 71 0 0) (way 1 8 65534 0 0)) ≡ to 7 72 8 65535
unfolding computing
rtcp_ports = refl

-- "0.0.0.0 is an address like any other"
abbrev zero_addresses : Component
zero_addresses = component video_kind rtp_avp 2 2 (way 1 0 70 0 0) (way 1 0 80 0 0)

pub to_address_0 : (media_to zero_addresses ≡ to 0 70 0 80) × (rtcp_to zero_addresses ≡ to 0 71 0 81)
unfolding computing
to_address_0 = (refl, refl)
