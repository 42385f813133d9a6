-- The classes as the clear bits of one word.
use Rattle.std.proofs.Common.{◌≡◌, ℕ, zero, suc, ◌/◌, ◌%◌, ◌^◌, ◌<◌, ◌≤◌, Bool, true, false, cond, ◌&&◌, T, eqb, leb, sym, refl, subst, inl, inr, le_of_suc-le-suc, not-suc-le-zero, eq-or-lt_of_le, arith, le→leb, eqb→eq, leb→le}
use Rattle.flow.specs.Range.{is_class}
use lib.Ieee.Fits.{and_i, and_l, and_r}
use Rattle.ranging.proofs.Tests.{same}

-- ---- a test computed for every number below m
abbrev up_to : (ℕ → Bool) → ℕ → Bool
up_to f zero = true
up_to f (suc m) = f m && up_to f m

below : (f : ℕ → Bool) (m : ℕ) → T (up_to f m) → (n : ℕ) → n < m → T (f n)
below f zero t n h = absurd (not-suc-le-zero h)
below f (suc m) t n h =
    elim (eq-or-lt_of_le (le_of_suc-le-suc h)) [
      | inl p ↦ subst (λ (k : ℕ). T (f k)) (sym p) (and_l (f m) (up_to f m) t)
      | inr q ↦ below f m (and_r (f m) (up_to f m) t) n q
    ]

abbrev agree : Bool → Bool → Bool
agree true b = b
agree false true = false
agree false false = true

agreed : (a b : Bool) → T (agree a b) → a ≡ b
agreed true true t = refl
agreed true false t = absurd t
agreed false true t = absurd t
agreed false false t = refl

-- the bits of 0xffff_ffff_ffff_fcaa
pub class_bits : (n : ℕ) → eqb (18446744073709550762 / 2 ^ (n % 64) % 2) 0 ≡ is_class (n % 64)
unfolding is_class
class_bits n =
    agreed (eqb (18446744073709550762 / 2 ^ (n % 64) % 2) 0) (is_class (n % 64))
    (below (λ k. agree (eqb (18446744073709550762 / 2 ^ k % 2) 0) (is_class k)) 64 tt (n % 64) (omega arith))

-- ---- a class is at most 9
either : (a b : Bool) (n : ℕ) → T (cond a true b) → (T a → n ≤ 9) → (T b → n ≤ 9) → n ≤ 9
either true b n t f g = f tt
either false b n t f g = g t

ran : (n m : ℕ) → m ≤ 9 → T (eqb n m) → n ≤ 9
ran n m h t = omega (arith, h, eqb→eq n m t)

to_9 : (n : ℕ) → T (is_class n) → n ≤ 9
unfolding is_class
to_9 n t =
    either (eqb n 0) (cond (eqb n 2) true (cond (eqb n 4) true (cond (eqb n 6) true (cond (eqb n 8) true (eqb n 9))))) n t (ran n 0 (omega arith)) λ t.
    either (eqb n 2) (cond (eqb n 4) true (cond (eqb n 6) true (cond (eqb n 8) true (eqb n 9)))) n t (ran n 2 (omega arith)) λ t.
    either (eqb n 4) (cond (eqb n 6) true (cond (eqb n 8) true (eqb n 9))) n t (ran n 4 (omega arith)) λ t.
    either (eqb n 6) (cond (eqb n 8) true (eqb n 9)) n t (ran n 6 (omega arith)) λ t.
    either (eqb n 8) (eqb n 9) n t (ran n 8 (omega arith)) (ran n 9 (omega arith))

small : (n : ℕ) → n ≤ 9 → n % 64 ≡ n
small n h = omega (arith, h)

-- with that, the bits are the whole test
pub class_in : (n : ℕ) → (leb n 9 && is_class (n % 64)) ≡ is_class n
class_in n =
    same (leb n 9 && is_class (n % 64)) (is_class n)
    (λ h. subst (λ (k : ℕ). T (is_class k)) (small n (leb→le n 9 (and_l (leb n 9) (is_class (n % 64)) h))) (and_r (leb n 9) (is_class (n % 64)) h))
    (λ h. and_i (leb n 9) (is_class (n % 64)) (le→leb n 9 (to_9 n h)) (subst (λ (k : ℕ). T (is_class k)) (sym (small n (to_9 n h))) h))
