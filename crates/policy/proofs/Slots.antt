-- The loops over the slots: one slot more is written, or looked at. Assumes nothing.
use Prim.Native.Nat.{ℕ, zero, suc, ◌+◌, ◌≤◌, ◌<◌}
use mathlib.Core.Path.{◌≡◌, refl, sym, ◌∙◌}
use mathlib.Core.Bool.{true, cond}
use lib.ListN.{set, replicate}
use lib.Dec.{ltb}
use native.Mathlib.Omega.{arith}
use borrow.Author.Tests.{lt-ltb, le-ltb, ltb-true, ltb-false}
use Rattle.flow.specs.Slots.{slots, up_to_eight}
use Rattle.flow.proofs.Slots.{eight_most, eight_below}

-- the first j slots by f, the others by g
abbrev pub up_to : {A : Type 0} → ℕ → (ℕ → A) → (ℕ → A) → ℕ → A
up_to j f g k = cond (ltb k j) (f k) (g k)

-- one slot more
pub slots_next : {A : Type 0} (f g : ℕ → A) (j : ℕ) → j < 8 → set (slots (up_to j f g)) j (f j) ≡ slots (up_to (j + 1) f g)
unfolding slots
slots_next f g zero h = refl
slots_next f g (suc zero) h = refl
slots_next f g (suc (suc zero)) h = refl
slots_next f g (suc (suc (suc zero))) h = refl
slots_next f g (suc (suc (suc (suc zero)))) h = refl
slots_next f g (suc (suc (suc (suc (suc zero))))) h = refl
slots_next f g (suc (suc (suc (suc (suc (suc zero)))))) h = refl
slots_next f g (suc (suc (suc (suc (suc (suc (suc zero))))))) h = refl
slots_next f g (suc (suc (suc (suc (suc (suc (suc (suc j)))))))) h = absurd (omega arith)

pub slots_none : {A : Type 0} (f : ℕ → A) (z : A) → replicate 8 z ≡ slots (up_to 0 f (λ k. z))
unfolding slots
slots_none f z = refl

-- Below a count up to eight is below the count; a slot of the eight past the one is past the other.
pub below_count : (count j : ℕ) → j < up_to_eight count → j < count
below_count count j h =
    let e : ltb j count ≡ true = sym (eight_below count j (omega (arith, eight_most count))) ∙ lt-ltb j (up_to_eight count) h in
    ltb-true j count e

pub past_count_lem : (count j : ℕ) → up_to_eight count ≤ j → j < 8 → count ≤ j
past_count_lem count j h m = ltb-false j count (sym (eight_below count j m) ∙ le-ltb j (up_to_eight count) h)
