-- Again: to derive from the same offer and answer a second time changes no flow, status or rate. Assumes nothing.
use Prim.Native.Nat.{ℕ, ◌≤◌, ◌<◌}
use mathlib.Core.Path.{◌≡◌, refl, sym, ◌∙◌}
use mathlib.Core.Bool.{Bool, true, false, not, ◌&&◌, ◌||◌, and-true, and_comm}
use lib.Dec.{ltb, eqb}
use borrow.Author.Tests.{ltb-true, ltb-false, lt-ltb, eqb-true, eqb-false, eq-eqb, ne_eqb}
use Rattle.sdp.specs.declared.Media.{Media}
use Rattle.flow.specs.declared.Settings.{Settings}
use Rattle.flow.specs.declared.Component.{Component}
use Rattle.flow.specs.declared.Before.{Before}
use Rattle.flow.specs.declared.Was.{Was}
use Rattle.flow.specs.declared.Descriptions.{Descriptions}
use Rattle.flow.specs.Status.{uplink, downlink, status}
use Rattle.flow.specs.Described.{stays_both, both_at, described_up, described_down}
use Rattle.flow.specs.Before.{no_was, was_of, was_at, before_of, before_at}
use Rattle.flow.specs.Rates.{way_to}
use Rattle.flow.specs.Class.{class_of}
use Rattle.flow.specs.Derive.{flows_of, classed, said_at, slot_of, kept_after, component_of, derived}
use Rattle.flow.proofs.Tests.{by_test}
use Rattle.flow.proofs.Derived.{flows_at, slot_below, slot_past, component_below, held_at_lem}
use Rattle.flow.proofs.Slots.{slots_at, eight_below}
use Rattle.flow.proofs.Directed.{bit_says, way_removed, way_described}

-- A component that is described both ways stays so, and so nothing more is described the second time.
again_described : (removed here there both : Bool)
    → (not removed && ((not removed && (both || here)) && (not removed && (both || there)) || here)) ≡ (not removed && (both || here))
again_described true here there both = refl
again_described false here there true = refl
again_described false false there false = refl
again_described false true true false = refl
again_described false true false false = refl

module _ (s : ℕ) (both : Bool) where
  again_up : described_up s (described_up s both && described_down s both) ≡ described_up s both
  unfolding described_up described_down
  again_up = again_described (eqb s 4) (both_at s || eqb s 0) (both_at s || eqb s 1) both

  again_down : described_down s (described_up s both && described_down s both) ≡ described_down s both
  unfolding described_up described_down
  again_down = rw (and_comm (described_up s both) (described_down s both)) (again_described (eqb s 4) (both_at s || eqb s 1) (both_at s || eqb s 0) both)

-- So each direction is the same: where it is removed it is nothing.
way_again : (s transport : ℕ) (here there : Bool) (text answer : Media) (media rtcp : ℕ) → ((s ≡ 4 → ⊥) → here ≡ there)
    → way_to s transport here text answer media rtcp ≡ way_to s transport there text answer media rtcp
way_again s transport here there text answer media rtcp h =
    by_test (eqb s 4)
    (λ e. rw (eqb-true s 4 e) (way_removed transport here text answer media rtcp ∙ sym (way_removed transport there text answer media rtcp)))
    (λ e. rw (h (eqb-false s 4 e)))

module _ (set : Settings) (origin kept : ℕ) (was : Was) (offer answer : Media) where
  -- the component of the first time, as it was before the second
  abbrev now : Was
  now = was_of (classed kept (flows_of set origin was offer answer))

  abbrev both : Bool
  both = stays_both was offer.kind

  abbrev s : ℕ
  s = status origin offer answer

  -- A live component had both directions after the first time where both were described.
  again_both : (s ≡ 4 → ⊥) → stays_both now offer.kind ≡ (described_up s both && described_down s both)
  unfolding stays_both was_of classed flows_of
  again_both live =
      rw (
        ne_eqb s 4 live,
        way_described offer.transport (described_up s both) (downlink origin offer answer) answer set.media.up set.rtcp.up s live,
        way_described offer.transport (described_down s both) (uplink origin offer answer) answer set.media.down set.rtcp.down s live,
        bit_says (described_up s both),
        bit_says (described_down s both),
        eq-eqb offer.kind offer.kind refl,
      )
      (and-true (described_up s both && described_down s both))

  -- The flows of the second time are those of the first.
  again_flows : flows_of set origin now offer answer ≡ flows_of set origin was offer answer
  unfolding flows_of
  again_flows =
      rw (
        way_again s offer.transport (described_up s (stays_both now offer.kind)) (described_up s both) (downlink origin offer answer) answer set.media.up set.rtcp.up
            (λ live. rw (again_both live) (again_up s both)),
        way_again s offer.transport (described_down s (stays_both now offer.kind)) (described_down s both) (uplink origin offer answer) answer set.media.down set.rtcp.down
            (λ live. rw (again_both live) (again_down s both)),
      )

-- The class of a removed component does not depend on the kept class.
classed_removed : (kept later : ℕ) (c : Component) → c.status ≡ 4 → classed kept c ≡ classed later c
unfolding classed class_of
classed_removed kept later c h = rw h

module _ (set : Settings) (origin : ℕ) (before : Before) (offer answer : Descriptions) (j : ℕ) (h : j < 8) where
  -- what the session holds after the first time, as deriving reads it
  abbrev once : Before
  once = before_of (derived set origin before offer answer)

  -- A slot below the count was then what its component is.
  once_below : j < offer.count → before_at once j ≡ was_of (classed (kept_after set origin before offer answer) (flows_at set origin before offer answer j))
  unfolding before_of was_at derived
  once_below k =
      slots_at (was_at (derived set origin before offer answer)) no_was j h
      ∙ rw (eight_below offer.count j h, lt-ltb j offer.count k, held_at_lem set origin before offer answer j h, component_below set origin before offer answer j k)

  -- So are the flows at a slot below the count.
  again_below : j < offer.count → flows_at set origin once offer answer j ≡ flows_at set origin before offer answer j
  again_below k =
      rw (once_below k) (again_flows set origin (kept_after set origin before offer answer) (before_at before j) (said_at offer j) (said_at answer j))

  -- The second time each slot has the flows, the status and the rates of the first.
  pub again_slot : slot_of set origin once offer answer j ≡ slot_of set origin before offer answer j
  again_slot =
      by_test (ltb j offer.count)
      (λ e.
      let k : j < offer.count = ltb-true j offer.count e in
      slot_below set origin once offer answer j k ∙ again_below k ∙ sym (slot_below set origin before offer answer j k))
      (λ e.
      let k : offer.count ≤ j = ltb-false j offer.count e in
      slot_past set origin once offer answer j k ∙ sym (slot_past set origin before offer answer j k))

  -- So a removed component is the same the second time.
  pub again_removed : (component_of set origin before offer answer j).status ≡ 4
      → component_of set origin once offer answer j ≡ component_of set origin before offer answer j
  unfolding component_of classed
  again_removed e =
      by_test (ltb j offer.count) (λ f. rw (f, again_slot) (classed_removed _ _ (slot_of set origin before offer answer j) (rw f at e))) (λ f. rw f)

  -- Both directions of every component are the same the second time, and with them all rates; so is its status.
  pub again_component : ((component_of set origin once offer answer j).up ≡ (component_of set origin before offer answer j).up)
      × ((component_of set origin once offer answer j).down ≡ (component_of set origin before offer answer j).down)
      × ((component_of set origin once offer answer j).status ≡ (component_of set origin before offer answer j).status)
  unfolding component_of classed
  again_component = by_test (ltb j offer.count) (λ e. rw (e, again_slot) (refl, refl, refl)) (λ e. rw e (refl, refl, refl))
