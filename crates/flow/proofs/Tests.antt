-- A test passes or it does not; one of two tests passes, or both. Assumes nothing.
use Rattle.std.specs.Int.{from_bool}
use Prim.Native.Nat.{ℕ, min, max}
use native.Mathlib.Omega.{arith}
use mathlib.Core.Path.{◌≡◌, refl}
use mathlib.Core.Logic.{◌⊎◌, inl, inr}
use mathlib.Core.Bool.{Bool, true, false, cond, ◌&&◌, ◌||◌, false≢true, true≢false}
use lib.Dec.{ltb, eqb}
use borrow.Author.Tests.{eqb-true, ltb-true, ltb-false}
use Rattle.flow.specs.Before.{bit}

-- What follows from either answer of a test follows.
pub by_test : {A : Type 0} (b : Bool) → (b ≡ true → A) → (b ≡ false → A) → A
by_test true f g = f refl
by_test false f g = g refl

-- If one of two tests passes, the first does or the second does.
pub or_either : (a b : Bool) → (a || b) ≡ true → (a ≡ true) ⊎ (b ≡ true)
or_either true b e = inl refl
or_either false b e = inr e

-- If the first or the second does, one of them does.
pub either_or : (a b : Bool) → (a ≡ true) ⊎ (b ≡ true) → (a || b) ≡ true
either_or true b h = refl
either_or false b (inl e) = absurd (false≢true e)
either_or false b (inr e) = e

-- Where the first of two tests fails, the second does not matter.
pub and_same : (a b c : Bool) → (a ≡ true → b ≡ c) → (a && b) ≡ (a && c)
and_same true b c h = h refl
and_same false b c h = refl

-- Where neither of two tests passes, the first fails.
pub neither_left : (a b : Bool) → (a || b) ≡ false → a ≡ false
neither_left true b e = e
neither_left false b e = refl

-- Where neither of two tests passes, the second fails.
pub neither_right : (a b : Bool) → (a || b) ≡ false → b ≡ false
neither_right true b e = absurd (true≢false e)
neither_right false b e = e

-- What holds of two numbers holds of a number that is one of them.
pub either_at : (P : ℕ → Type 0) (s a b : ℕ) → (eqb s a || eqb s b) ≡ true → P a → P b → P s
either_at P s a b h p q = by (or_either (eqb s a) (eqb s b) h) where
  by : (eqb s a ≡ true) ⊎ (eqb s b ≡ true) → P s
  by (inl e) = rw (eqb-true s a e) p
  by (inr e) = rw (eqb-true s b e) q

-- The smaller of two numbers and the larger, by a test; a test as a number.
pub min_is : (a b : ℕ) → min a b ≡ cond (ltb a b) a b
min_is a b = by_test (ltb a b) (λ e. rw e (omega (arith, ltb-true a b e))) (λ e. rw e (omega (arith, ltb-false a b e)))

pub max_is : (a b : ℕ) → max a b ≡ cond (ltb a b) b a
max_is a b = by_test (ltb a b) (λ e. rw e (omega (arith, ltb-true a b e))) (λ e. rw e (omega (arith, ltb-false a b e)))

pub bit_is : (b : Bool) → from_bool b ≡ bit b
unfolding bit
bit_is true = refl
bit_is false = refl
