-- The loop of `before_of`: what holds before each turn, and how a turn keeps it. Assumes nothing.
use Prim.Native.Nat.{ℕ, ◌+◌, ◌≤◌, ◌<◌}
use native.Mathlib.Omega.{arith}
use mathlib.Core.Path.{◌≡◌, refl, ap, ◌∙◌}
use mathlib.Core.List.{List}
use mathlib.Core.Bool.{Bool, true, false, cond}
use lib.ListN.{get_or, take, replicate}
use lib.ListN as list
use lib.Dec.{ltb}
use borrow.Author.Tests.{lt-ltb}
use Rattle.std.proofs.lemmas.List.{get_or-take}
use Rattle.flow.specs.declared.Component.{Component}
use Rattle.flow.specs.declared.Held.{Held}
use Rattle.flow.specs.declared.Was.{Was}
use Rattle.flow.specs.Session.{no_component, held_at}
use Rattle.flow.specs.Before.{no_was, was_of, was_at, before_of}
use Rattle.flow.specs.Slots.{slots, up_to_eight}
use Rattle.flow.proofs.Slots.{slots_same, eight_most, eight_below}
use Rattle.policy.proofs.Slots.{up_to, slots_next, slots_none, below_count}

module _ (held : Held) where
  -- before turn j: the first j slots are as they were
  pub record Noted (components : List Was) (j : ℕ) : Type 0 where
    pub few : j ≤ up_to_eight held.count
    pub noted : components ≡ slots (up_to j (was_at held) (λ k. no_was))

  pub noted_none : (z : Was) → z ≡ no_was → Noted (replicate 8 z) 0
  noted_none z e = record { few = omega arith; noted = rw e (slots_none (was_at held) no_was) }

  was_at_lem : (j : ℕ) → j < held.count → was_of (held_at held j) ≡ was_at held j
  unfolding was_at
  was_at_lem j h = rw (lt-ltb j held.count h)

  pub noted_next : (items : List Component) (components : List Was) (j : ℕ) (was : Was) → items ≡ take (up_to_eight held.count) held.components
      → Noted components j → j < up_to_eight held.count → was ≡ was_of (get_or items j no_component) → Noted (list.set components j was) (j + 1)
  noted_next items components j was i s h e =
      let m : j < 8 = omega (arith, h, eight_most held.count) in
      let at : get_or items j no_component ≡ held_at held j = rw i (get_or-take (up_to_eight held.count) held.components j no_component h) in
      let w : was ≡ was_at held j = e ∙ ap was_of at ∙ was_at_lem j (below_count held.count j h) in
      record { few = omega (arith, h); noted = rw (s.noted, w) (slots_next (was_at held) (λ k. no_was) j m) }

  noted_slot : (k : ℕ) → k < 8 → up_to (up_to_eight held.count) (was_at held) (λ i. no_was) k ≡ was_at held k
  unfolding was_at
  noted_slot k h = rw (eight_below held.count k h) (by (ltb k held.count)) where
    by : (b : Bool) → cond b (cond b (was_of (held_at held k)) no_was) no_was ≡ cond b (was_of (held_at held k)) no_was
    by true = refl
    by false = refl

  -- after the loop
  pub all_noted : (components : List Was) (j : ℕ) → Noted components j → up_to_eight held.count ≤ j
      → record { kept = held.kept; components = components } ≡ before_of held
  unfolding before_of
  all_noted components j s h =
      let e : j ≡ up_to_eight held.count = omega (arith, s.few) in
      rw (s.noted, e, slots_same (up_to (up_to_eight held.count) (was_at held) (λ k. no_was)) (was_at held) noted_slot)
