-- The lowest slot that passes a test, exactly: none where none passes; else it passes, and none below it does. Assumes nothing.
use Prim.Native.Nat.{ℕ, zero, suc, ◌<◌}
use native.Mathlib.Omega.{arith}
use mathlib.Core.Path.{◌≡◌, refl}
use mathlib.Core.Bool.{Bool, true, false, cond, not}
use native.Mathlib.Decide.{ℕ_discrete}
use lib.Dec.{eqb}
use borrow.Author.Tests.{eqb-true, eqb-false, ne_eqb}
use Rattle.flow.proofs.Tests.{by_test}
use Rattle.flow.specs.Fit.{lowest}

-- Where the lowest of one more slot is none, it was none before, and that slot does not pass the test.
lowest_last : (l n : ℕ) (t : Bool) → cond (not (eqb l 0)) l (cond t (suc n) 0) ≡ 0 → (l ≡ 0) × (t ≡ false)
lowest_last l n true h = by_test (eqb l 0) (λ e. absurd (omega (arith, rw e at h))) (λ e. absurd (eqb-false l 0 e (rw e at h)))
lowest_last l n false h = by_test (eqb l 0) (λ e. (eqb-true l 0 e, refl)) (λ e. (rw e at h, refl))

-- Where the lowest of the first n slots is none, none of them passes the test.
pub lowest_none : (p : ℕ → Bool) (n : ℕ) → lowest p n ≡ 0 → (j : ℕ) → j < n → p j ≡ false
unfolding lowest
lowest_none p zero e j h = absurd (omega arith)
lowest_none p (suc n) e j h = by (lowest_none p n) (lowest_last (lowest p n) n (p n) e) (ℕ_discrete j n) where
  by : (lowest p n ≡ 0 → (i : ℕ) → i < n → p i ≡ false) → (lowest p n ≡ 0) × (p n ≡ false) → Dec (j ≡ n) → p j ≡ false
  by k l (yes q) = rw q l.1
  by k l (no q) = k l.0 j (omega arith)

-- Where none of them passes the test, the lowest is none.
pub none_lowest : (p : ℕ → Bool) (n : ℕ) → ((j : ℕ) → j < n → p j ≡ false) → lowest p n ≡ 0
unfolding lowest
none_lowest p zero h = refl
none_lowest p (suc n) h = rw (none_lowest p n (λ j k. h j (omega (arith, k))), h n (omega arith))

-- Where the lowest is the slot j, counted from 1, that slot passes the test, and none below it does.
pub lowest_is : (p : ℕ → Bool) (n j : ℕ) → lowest p n ≡ suc j → (j < n) × (p j ≡ true) × ((i : ℕ) → i < j → p i ≡ false)
unfolding lowest
lowest_is p zero j h = absurd (omega (arith, h))
lowest_is p (suc n) j h =
    by_test (eqb (lowest p n) 0)
    (λ e. by_test (p n) (λ t. last (eqb-true (lowest p n) 0 e) t (omega (arith, rw (e, t) at h))) (λ t. absurd (omega (arith, rw (e, t) at h))))
    (λ e. before (lowest_is p n j (rw e at h))) where
      last : lowest p n ≡ 0 → p n ≡ true → j ≡ n → (j < suc n) × (p j ≡ true) × ((i : ℕ) → i < j → p i ≡ false)
      last none t q = (omega arith, rw q t, λ i k. lowest_none p n none i (omega arith))

      before : (j < n) × (p j ≡ true) × ((i : ℕ) → i < j → p i ≡ false) → (j < suc n) × (p j ≡ true) × ((i : ℕ) → i < j → p i ≡ false)
      before k = (omega (arith, k.0), k.1, k.2)

-- Where that slot passes the test and none below it does, it is the lowest.
pub is_lowest : (p : ℕ → Bool) (n j : ℕ) → j < n → p j ≡ true → ((i : ℕ) → i < j → p i ≡ false) → lowest p n ≡ suc j
unfolding lowest
is_lowest p zero j h t below = absurd (omega arith)
is_lowest p (suc n) j h t below = by (is_lowest p n j) (ℕ_discrete j n) where
  by : (j < n → p j ≡ true → ((i : ℕ) → i < j → p i ≡ false) → lowest p n ≡ suc j) → Dec (j ≡ n) → lowest p (suc n) ≡ suc j
  by k (yes q) = rw (none_lowest p n (λ i l. below i (omega arith)), ← q, t)
  by k (no q) = rw (k (omega arith) t below, ne_eqb (suc j) 0 (λ z. omega (arith, z)))
