-- What a session holds, and what deriving reads of it: computed. Assumes nothing.
use Prim.Native.Nat.{ℕ}
use mathlib.Core.Path.{◌≡◌, refl}
use mathlib.Core.List.{List, [], ◌∷◌, map}
use mathlib.Core.Bool.{true, false}
use lib.ListN.{replicate}
use Rattle.sdp.specs.Media.{audio_kind, video_kind, rtp_avp}
use Rattle.flow.specs.declared.Way.{Way}
use Rattle.flow.specs.declared.Component.{Component}
use Rattle.flow.specs.declared.Held.{Held}
use Rattle.flow.specs.declared.Was.{Was}
use Rattle.flow.specs.Session.{no_component, fresh_held, held_at, live, described}
use Rattle.flow.specs.Before.{bit, was_of, before_of, before_at}
use Rattle.flow.proofs.Computing.{computing}

-- a direction with its address, port, media rate and RTCP rate, described (1) or not (0)
abbrev pub way : ℕ → ℕ → ℕ → ℕ → ℕ → Way
way here address port media rtcp = record { rtcp = record { 0 = rtcp }; address = address; media = media; port = port; described = here }

-- a component by kind, transport, status and class
abbrev pub component : ℕ → ℕ → ℕ → ℕ → Way → Way → Component
component kind transport status class up down =
    record { kind = kind; transport = transport; status = status; class = class; up = up; down = down }

-- all zeros
abbrev pub zeros : Component
zeros = component 0 0 0 0 (way 0 0 0 0 0) (way 0 0 0 0 0)

-- audio of this status, described up and down or not
abbrev pub audio : ℕ → ℕ → ℕ → Component
audio status up down = component audio_kind rtp_avp status 2 (way up 0 0 0 0) (way down 0 0 0 0)

-- a session after an exchange, with this kept class
abbrev pub after : ℕ → ℕ → List Component → Held
after kept count components = record { completed = 1; kept = kept; count = count; components = components }

-- "A fresh row has none of these, and class 0": all zeros, as is what stands past the components
pub fresh : (fresh_held ≡ record { completed = 0; kept = 0; count = 0; components = replicate 8 zeros }) × (no_component ≡ zeros)
    × (held_at (after 2 1 (audio 2 1 1 ∷ [])) 0 ≡ audio 2 1 1)
    × (held_at (after 2 1 (audio 2 1 1 ∷ [])) 1 ≡ zeros)
unfolding computing
fresh = (refl, refl, refl, refl)

-- "a component is live if its status is not 4"; a direction is described or not
pub lives : (map (λ n. live (audio n 0 0)) (0 ∷ 1 ∷ 2 ∷ 3 ∷ 4 ∷ []) ≡ (true ∷ true ∷ true ∷ true ∷ false ∷ []))
    × (map (λ n. described (way n 0 0 0 0)) (0 ∷ 1 ∷ []) ≡ (false ∷ true ∷ []))
    × (map bit (false ∷ true ∷ []) ≡ (0 ∷ 1 ∷ []))
unfolding computing
lives = (refl, refl, refl)

-- as it was: its kind, and whether it was live, described up, described down
abbrev pub was : ℕ → ℕ → ℕ → ℕ → Was
was kind lived up down = record { kind = kind; live = lived; up = up; down = down }

-- A live one both ways, up, down, and neither way; a removed one that a host lends as described; one whose kind is not its transport.
pub as_they_were : map was_of
    (audio 2 1 1 ∷ audio 0 1 0 ∷ audio 1 0 1 ∷ audio 3 0 0 ∷ audio 4 1 1 ∷ component video_kind rtp_avp 2 2 (way 1 0 0 0 0) (way 1 0 0 0 0) ∷ [])
    ≡ (was 1 1 1 1 ∷ was 1 1 1 0 ∷ was 1 1 0 1 ∷ was 1 1 0 0 ∷ was 1 0 0 0 ∷ was 2 1 1 1 ∷ [])
unfolding computing
as_they_were = refl

-- All eight slots; past the count, and past the eight, nothing was there, whatever a host may lend.
pub befores : (before_of (after 4 1 (audio 2 1 1 ∷ audio 2 1 1 ∷ [])) ≡ record { kept = 4; components = was 1 1 1 1 ∷ replicate 7 (was 0 0 0 0) })
    × (before_at (before_of (after 4 8 (replicate 8 (audio 0 1 0)))) 7 ≡ was 1 1 1 0)
    × (before_at (before_of (after 4 9 (replicate 9 (audio 0 1 0)))) 8 ≡ was 0 0 0 0)
unfolding computing
befores = (refl, refl, refl)
