-- What a slot holds after an exchange, and what is said of both texts. Assumes nothing.
use Prim.Native.Nat.{ℕ, ◌≤◌, ◌<◌}
use mathlib.Core.Path.{◌≡◌}
use lib.Dec.{ltb, eqb}
use borrow.Author.Tests.{ltb-true, ltb-false, lt-ltb, le-ltb}
use Rattle.sdp.specs.declared.Media.{Media}
use Rattle.sdp.proofs.Said.{on_cond}
use Rattle.flow.specs.declared.Settings.{Settings}
use Rattle.flow.specs.declared.Component.{Component}
use Rattle.flow.specs.declared.Before.{Before}
use Rattle.flow.specs.declared.Descriptions.{Descriptions}
use Rattle.flow.specs.Before.{before_at}
use Rattle.flow.specs.Status.{uplink, downlink}
use Rattle.flow.specs.Session.{no_component, held_at}
use Rattle.flow.specs.Derive.{flows_of, classed, said_at, slot_of, kept_after, component_of, derived}
use Rattle.flow.proofs.Tests.{by_test}
use Rattle.flow.proofs.Slots.{slots_at, slots_past}

module _ (set : Settings) (origin : ℕ) (before : Before) (offer answer : Descriptions) (j : ℕ) where
  -- the flows of slot j, by what it was and what the texts say of it
  abbrev pub flows_at : Component
  flows_at = flows_of set origin (before_at before j) (said_at offer j) (said_at answer j)

  -- Below the count a slot has its flows.
  pub slot_below : j < offer.count → slot_of set origin before offer answer j ≡ flows_at
  unfolding slot_of
  slot_below h = rw (lt-ltb j offer.count h)

  -- Past the count a slot has nothing.
  pub slot_past : offer.count ≤ j → slot_of set origin before offer answer j ≡ no_component
  unfolding slot_of
  slot_past h = rw (le-ltb j offer.count h)

  -- Below the count a component has its flows and its class.
  pub component_below : j < offer.count → component_of set origin before offer answer j ≡ classed (kept_after set origin before offer answer) flows_at
  unfolding component_of
  component_below h = rw (lt-ltb j offer.count h, slot_below h)

  -- Past the count a component is unused.
  pub component_past : offer.count ≤ j → component_of set origin before offer answer j ≡ no_component
  unfolding component_of
  component_past h = rw (le-ltb j offer.count h)

  -- A session then holds each component at its slot, of eight.
  pub held_at_lem : j < 8 → held_at (derived set origin before offer answer) j ≡ component_of set origin before offer answer j
  unfolding derived
  held_at_lem h = slots_at (component_of set origin before offer answer) no_component j h

  -- Past the eight slots it holds nothing.
  pub held_past : 8 ≤ j → held_at (derived set origin before offer answer) j ≡ no_component
  unfolding derived
  held_past h = slots_past (component_of set origin before offer answer) no_component j h

-- What holds of the components below the count, and of an unused slot, holds of every slot.
pub by_below : (P : Component → Type 0) (set : Settings) (origin : ℕ) (before : Before) (offer answer : Descriptions) (j : ℕ)
    → (j < offer.count → P (classed (kept_after set origin before offer answer) (flows_at set origin before offer answer j)))
    → (offer.count ≤ j → P no_component)
    → P (component_of set origin before offer answer j)
by_below P set origin before offer answer j below past =
    by_test (ltb j offer.count)
    (λ e. rw (component_below set origin before offer answer j (ltb-true j offer.count e)) (below (ltb-true j offer.count e)))
    (λ e. rw (component_past set origin before offer answer j (ltb-false j offer.count e)) (past (ltb-false j offer.count e)))

-- What holds of both texts holds of the uplink SDP and of the downlink SDP.
pub both_texts : (P : Media → Type 0) (origin : ℕ) (offer answer : Media) → P offer → P answer → P (uplink origin offer answer) × P (downlink origin offer answer)
unfolding uplink downlink
both_texts P origin offer answer p q = (on_cond P (eqb origin 0) p q, on_cond P (eqb origin 0) q p)
