-- Removed: status 4 is given exactly where a port is 0, and a removed component holds zeros. Assumes nothing.
use Prim.Native.Nat.{ℕ, ◌≤◌}
use mathlib.Core.Path.{◌≡◌, refl}
use mathlib.Core.Logic.{◌↔◌, ◌⊎◌, inl, inr, ⊎_map}
use mathlib.Core.Bool.{Bool, false, not}
use lib.Dec.{eqb}
use native.Mathlib.Omega.{arith}
use borrow.Author.Tests.{eqb-true, eq-eqb}
use Rattle.sdp.specs.declared.Media.{Media}
use Rattle.sdp.proofs.Said.{on_cond}
use Rattle.flow.specs.declared.Settings.{Settings}
use Rattle.flow.specs.declared.Before.{Before}
use Rattle.flow.specs.declared.Was.{Was}
use Rattle.flow.specs.declared.Descriptions.{Descriptions}
use Rattle.flow.specs.Status.{uplink, downlink, is_removed, one_way, status_of, status}
use Rattle.flow.specs.Rates.{way_to}
use Rattle.flow.specs.Class.{class_of}
use Rattle.flow.specs.Derive.{flows_of, classed, said_at, component_of}
use Rattle.flow.specs.Session.{no_way}
use Rattle.flow.specs.Before.{before_at}
use Rattle.flow.proofs.Tests.{by_test, or_either, either_or}
use Rattle.flow.proofs.Derived.{by_below, both_texts}

-- A status by a direction is at most 3.
status_of_most : (direction : ℕ) (inUplink : Bool) → status_of direction inUplink ≤ 3
unfolding status_of one_way
status_of_most direction inUplink =
    on_cond (λ s. s ≤ 3) (eqb direction 4) (omega arith)
    (on_cond (λ s. s ≤ 3) (eqb direction 1) (omega arith)
    (on_cond (λ s. s ≤ 3) (eqb direction 2) (one inUplink) (one (not inUplink)))) where
      one : (up : Bool) → one_way up ≤ 3
      one up = on_cond (λ s. s ≤ 3) up (omega arith) (omega arith)

module _ (origin : ℕ) (offer answer : Media) where
  -- The status of what is not removed is at most 3.
  pub live_most : is_removed offer answer ≡ false → status origin offer answer ≤ 3
  unfolding status
  live_most e =
      rw e (on_cond (λ s. s ≤ 3) (eqb offer.direction 4) (omega arith) (status_of_most answer.direction (not (eqb origin 0))))

  -- A status is at most 4.
  pub status_most : status origin offer answer ≤ 4
  unfolding status
  status_most = by_test (is_removed offer answer) (λ e. rw e (omega arith)) (λ e. omega (arith, live_most e))

  -- Where the status is 4, one of the two ports is 0.
  pub status_removed_if : status origin offer answer ≡ 4 → (offer.port ≡ 0) ⊎ (answer.port ≡ 0)
  unfolding is_removed ⊎_map
  status_removed_if h =
      by_test (is_removed offer answer)
      (λ e. ⊎_map (eqb-true offer.port 0) (eqb-true answer.port 0) (or_either (eqb offer.port 0) (eqb answer.port 0) e))
      (λ e. absurd (omega (arith, live_most e)))

  -- Where one of the two ports is 0, the status is 4.
  pub removed_if_status : (offer.port ≡ 0) ⊎ (answer.port ≡ 0) → status origin offer answer ≡ 4
  unfolding status is_removed
  removed_if_status h =
      rw (either_or (eqb offer.port 0) (eqb answer.port 0) (⊎_map (eq-eqb offer.port 0) (eq-eqb answer.port 0) h))

  -- "4 REMOVED if either port is 0": the status is 4 exactly if one of the two ports is 0.
  pub status_removed : (status origin offer answer ≡ 4) ↔ ((offer.port ≡ 0) ⊎ (answer.port ≡ 0))
  status_removed = (status_removed_if, removed_if_status)

  -- The ports of a live component are not 0.
  pub live_port : (status origin offer answer ≡ 4 → ⊥)
      → ((uplink origin offer answer).port ≡ 0 → ⊥) × ((downlink origin offer answer).port ≡ 0 → ⊥)
  live_port live =
      both_texts (λ m. m.port ≡ 0 → ⊥) origin offer answer (λ e. live (removed_if_status (inl e))) (λ e. live (removed_if_status (inr e)))

  -- A removed component has nothing in either direction.
  pub removed_ways : (set : Settings) (was : Was) → (flows_of set origin was offer answer).status ≡ 4
      → ((flows_of set origin was offer answer).up ≡ no_way) × ((flows_of set origin was offer answer).down ≡ no_way)
  unfolding flows_of way_to
  removed_ways set was h = (rw h, rw h)

-- "Removed: all 0": a removed component has class 0 and nothing in either direction.
pub removed_zeros : (set : Settings) (origin : ℕ) (before : Before) (offer answer : Descriptions) (j : ℕ) → (component_of set origin before offer answer j).status ≡ 4
    → ((component_of set origin before offer answer j).class ≡ 0)
    × ((component_of set origin before offer answer j).up ≡ no_way)
    × ((component_of set origin before offer answer j).down ≡ no_way)
unfolding classed class_of
removed_zeros set origin before offer answer j =
    by_below (λ c. c.status ≡ 4 → (c.class ≡ 0) × (c.up ≡ no_way) × (c.down ≡ no_way)) set origin before offer answer j
    (λ e h.
    let ways = removed_ways origin (said_at offer j) (said_at answer j) set (before_at before j) h in
    (rw h, ways.0, ways.1))
    (λ e h. (refl, refl, refl))
