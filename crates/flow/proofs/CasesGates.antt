-- Gates: computed. Assumes nothing.
use Prim.Native.Nat.{ℕ}
use mathlib.Core.Path.{◌≡◌, refl}
use mathlib.Core.List.{List, [], ◌∷◌, map}
use lib.ListN.{replicate}
use Rattle.sdp.specs.Media.{rtp_avp, udp}
use Rattle.flow.specs.declared.Gates.{Gates}
use Rattle.flow.specs.Gates.{gates_of}
use Rattle.flow.proofs.Computing.{computing}
use Rattle.flow.proofs.CasesHeld.{way, component}
use Rattle.flow.proofs.CasesStatus.{kinds}

-- transport, status, described up and down; the gates of media up and down, and of RTCP
abbrev Case : Type 0
Case = ℕ × (ℕ × ℕ × ℕ) × (ℕ × ℕ) × (ℕ × ℕ)

abbrev figures : Case → Gates
figures k = record { media = record { up = k.2.0; down = k.2.1 }; rtcp = record { up = k.3.0; down = k.3.1 } }

abbrev told : ℕ → Case → Gates
told kind k = gates_of (component kind k.0 k.1.0 2 (way k.1.1 0 0 0 0) (way k.1.2 0 0 0 0))

abbrev opened : ℕ × ℕ
opened = (1, 1)

abbrev shut : ℕ × ℕ
shut = (0, 0)

-- "Media up open for 0 and 2, down for 1 and 2. RTCP both open for 0, 1, 2. Closed for 3, 4.": none where the flow is not described
abbrev cases : List Case
cases =
    (rtp_avp, (0, 1, 0), (1, 0), opened)
    ∷ (rtp_avp, (0, 1, 1), (1, 0), opened)
    ∷ (rtp_avp, (1, 0, 1), (0, 1), opened)
    ∷ (rtp_avp, (1, 1, 1), (0, 1), opened)
    ∷ (rtp_avp, (2, 1, 1), (1, 1), opened)
    ∷ (rtp_avp, (3, 1, 1), (0, 0), shut)
    ∷ (rtp_avp, (4, 0, 0), (0, 0), shut)
    ∷ (rtp_avp, (4, 1, 1), (0, 0), shut)
    ∷ (rtp_avp, (2, 0, 0), (0, 0), opened)
    ∷ (udp, (0, 1, 0), (1, 0), shut)
    ∷ (udp, (1, 0, 1), (0, 1), shut)
    ∷ (udp, (0, 1, 1), (1, 0), shut)
    ∷ (udp, (1, 1, 1), (0, 1), shut)
    ∷ (udp, (2, 1, 1), (1, 1), shut)
    ∷ (udp, (3, 1, 1), (0, 0), shut)
    ∷ (udp, (4, 1, 1), (0, 0), shut)
    ∷ []

-- .. of every kind
pub gates : map (λ kind. map (told kind) cases) kinds ≡ replicate 6 (map figures cases)
unfolding computing
gates = refl

-- The media gates by status, each a row, and by what is described: both ways, up, down, neither way.
abbrev media : ℕ → ℕ × ℕ → ℕ × ℕ
media status k = (of.media.up, of.media.down) where
  of : Gates
  of = gates_of (component 1 rtp_avp status 2 (way k.0 0 0 0 0) (way k.1 0 0 0 0))

pub media_gates : map (λ n. map (media n) ((1, 1) ∷ (1, 0) ∷ (0, 1) ∷ (0, 0) ∷ [])) (0 ∷ 1 ∷ 2 ∷ 3 ∷ 4 ∷ [])
    ≡ (((1, 0) ∷ (1, 0) ∷ (0, 0) ∷ (0, 0) ∷ [])
    ∷ ((0, 1) ∷ (0, 0) ∷ (0, 1) ∷ (0, 0) ∷ [])
    ∷ ((1, 1) ∷ (1, 0) ∷ (0, 1) ∷ (0, 0) ∷ [])
    ∷ replicate 4 (0, 0)
    ∷ replicate 4 (0, 0)
    ∷ [])
unfolding computing
media_gates = refl
