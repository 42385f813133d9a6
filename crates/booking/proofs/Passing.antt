-- A test of all slots of a list. Assumes nothing.
use Rattle.std.proofs.Common.{◌≡◌, ℕ, Bool, true, List, IsTrue, ◌↔◌, EachIndex, length, sym, ◌∙◌, arith}
use Rattle.flow.specs.Slots.{every}
use Rattle.flow.specs.declared.Held.{Held}
use Rattle.flow.specs.Session.{held_at}
use Rattle.flow.specs.Range.{held_rates}
use Rattle.flow.proofs.Tests.{by_test}
use Rattle.flow.proofs.Slots.{every_has, has_every}
use Rattle.booking.specs.Sums.{component_rates}

-- a test that is true just where each of the eight is
pub all_passed : {A : Type 0} (xs : List A) (p : ℕ → Bool) (r : Bool) → length xs ≡ 8 → IsTrue r ↔ EachIndex xs (λ k. IsTrue (p k)) → r ≡ every p 8
all_passed xs p r e k =
    by_test (every p 8)
    (λ t. k.1 (λ j h. every_has p 8 t j (omega arith)) ∙ sym t)
    (λ f. by_test r (λ t. let u : every p 8 ≡ true = has_every p 8 (λ j h. k.0 t j (omega arith)) in cc) (λ u. u ∙ sym f))

pub rates_passed : (held : Held) (r : Bool) → length held.components ≡ 8
    → IsTrue r ↔ EachIndex held.components (λ k. IsTrue (component_rates (held_at held k))) → r ≡ held_rates held
unfolding held_rates component_rates
rates_passed held = all_passed held.components (λ k. component_rates (held_at held k))
