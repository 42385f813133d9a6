-- What a bearer's set names, exactly: one past the count, and the smallest class. Assumes nothing.
use Prim.Native.Nat.{ℕ, zero, suc, ◌/◌, ◌%◌, ◌≤◌, ◌<◌}
use native.Mathlib.Omega.{arith}
use native.Mathlib.Decide.{ℕ_discrete}
use mathlib.Core.Path.{◌≡◌, refl, sym, ◌∙◌}
use mathlib.Core.Logic.{◌↔◌, ◌⊎◌, inl, inr}
use mathlib.Core.Bool.{true, false, cond, true≢false}
use lib.Dec.{ltb, eqb}
use borrow.Author.Tests.{ltb-true, ltb-false, eqb-false, ne_eqb, not-true}
use Rattle.flow.specs.declared.Held.{Held}
use Rattle.flow.specs.Session.{held_at}
use Rattle.flow.specs.Slots.{through}
use Rattle.flow.specs.Bearer.{rest, named, names_past, over_named, smaller, count_of, authorised_class, SomePast, SmallestNamed}
use Rattle.flow.proofs.Tests.{by_test}

-- A set without its first n, and without one more.
rest_next : (set n : ℕ) → rest set (suc n) ≡ rest set n / 2
unfolding rest through
rest_next set n = refl

-- What is left of a set from slot n on names a component from there on, if anything is left.
rest_names : (k set n : ℕ) → rest set n ≤ k → (rest set n ≡ 0 → ⊥) → SomePast set n
unfolding named
rest_names zero set n most some = absurd (some (omega (arith, most)))
rest_names (suc k) set n most some = by_test (eqb (rest set n % 2) 1) (λ e. (n, omega arith, e)) (λ e. later (rest_names k set (suc n)) (eqb-false (rest set n % 2) 1 e)) where
  later : (rest set (suc n) ≤ k → (rest set (suc n) ≡ 0 → ⊥) → SomePast set (suc n)) → (rest set n % 2 ≡ 1 → ⊥) → SomePast set n
  later more even = earlier (more (rw (rest_next set n) (omega (arith, most))) (rw (rest_next set n) (λ z. some_left z))) where
    some_left : rest set n / 2 ≡ 0 → ⊥
    some_left z = by (ℕ_discrete (rest set n) 0) where
      by : Dec (rest set n ≡ 0) → ⊥
      by (yes q) = some q
      by (no q) = even (omega (arith, z, q))

    earlier : SomePast set (suc n) → SomePast set n
    earlier s = (s.0, omega (arith, s.1), s.2)

-- Where nothing is left from slot n on, nothing is left from a later one on.
half_none : {r : ℕ} → r ≡ 0 → r / 2 ≡ 0
half_none z = rw z

rest_none : (set n m : ℕ) → n ≤ m → rest set n ≡ 0 → rest set m ≡ 0
rest_none set n zero l h = let q : n ≡ 0 = omega (arith, l) in rw q at h
rest_none set n (suc m) l h = by (rest_none set n m) (ℕ_discrete n (suc m)) where
  by : (n ≤ m → rest set n ≡ 0 → rest set m ≡ 0) → Dec (n ≡ suc m) → rest set (suc m) ≡ 0
  by before (yes q) = rw (← q) h
  by before (no q) = rest_next set m ∙ half_none (before (omega (arith, l, q)) h)

-- 18: a set names one past the first n exactly if it names a component from slot n on.
pub past_exactly : (set n : ℕ) → (names_past set n ≡ true) ↔ SomePast set n
unfolding named
past_exactly set n = (into, back) where
  into : names_past set n ≡ true → SomePast set n
  into e = rest_names (rest set n) set n (omega arith) (eqb-false (rest set n) 0 (not-true _ e))

  back : SomePast set n → names_past set n ≡ true
  back s = rw (ne_eqb (rest set n) 0 (λ z. none (rest_none set n s.0 s.1 z) s.2)) where
    none : rest set s.0 ≡ 0 → named set s.0 ≡ true → ⊥
    none z e = true≢false (sym (rw z at e))

-- The smaller of two classes, 0 being none: it is one of them, and not above either that is some.
smaller_one : (a b : ℕ) → (smaller a b ≡ a) ⊎ (smaller a b ≡ b)
unfolding smaller
smaller_one a b =
    by_test (eqb a 0) (λ e. rw e (inr refl))
    (λ e. by_test (eqb b 0) (λ f. rw (e, f) (inl refl)) (λ f. by_test (ltb a b) (λ g. rw (e, f, g) (inl refl)) (λ g. rw (e, f, g) (inr refl))))

positive : (n : ℕ) → (n ≡ 0 → ⊥) → 1 ≤ n
positive zero h = absurd (h refl)
positive (suc n) h = omega arith

smaller_first : (a b : ℕ) → (a ≡ 0 → ⊥) → (1 ≤ smaller a b) × (smaller a b ≤ a)
unfolding smaller
smaller_first a b h =
    rw (ne_eqb a 0 h)
    (by_test (eqb b 0) (λ f. rw f (positive a h, omega arith))
    (λ f. by_test (ltb a b) (λ g. rw (f, g) (positive a h, omega arith)) (λ g. rw (f, g) (positive b (eqb-false b 0 f), ltb-false a b g))))

smaller_second : (a b : ℕ) → (b ≡ 0 → ⊥) → (1 ≤ smaller a b) × (smaller a b ≤ b)
unfolding smaller
smaller_second a b h =
    by_test (eqb a 0) (λ e. rw e (positive b h, omega arith))
    (λ e. rw (e, ne_eqb b 0 h) (by_test (ltb a b) (λ g. rw g (positive a (eqb-false a 0 e), omega (arith, ltb-true a b g))) (λ g. rw g (positive b h, omega arith))))

module _ (held : Held) (set : ℕ) where
  -- the class of slot j; the smallest of the first n named
  abbrev class : ℕ → ℕ
  class j = (held_at held j).class

  abbrev least : ℕ → ℕ
  least = over_named (λ c least. smaller least c.class) 0 held set

  least_next : (n : ℕ) → least (suc n) ≡ cond (named set n) (smaller (least n) (class n)) (least n)
  unfolding over_named through
  least_next n = refl

  -- v is one of the first n named, or 0; none of them is smaller but 0
  abbrev Has : ℕ → ℕ → Type 0
  Has n v = (v ≡ 0) ⊎ ((j : ℕ) × (j < n) × (named set j ≡ true) × (class j ≡ v))

  abbrev Under : ℕ → ℕ → Type 0
  Under n v = (j : ℕ) → j < n → named set j ≡ true → (class j ≡ 0 → ⊥) → (1 ≤ v) × (v ≤ class j)

  has_more : (n v : ℕ) → Has n v → Has (suc n) v
  has_more n v (inl z) = inl z
  has_more n v (inr h) = inr (h.0, omega (arith, h.1), h.2, h.3)

  module _ (n v : ℕ) (has : Has n v) (under : Under n v) where
    -- with a slot that is named
    has_named : named set n ≡ true → Has (suc n) (smaller v (class n))
    has_named e = by (smaller_one v (class n)) where
      by : (smaller v (class n) ≡ v) ⊎ (smaller v (class n) ≡ class n) → Has (suc n) (smaller v (class n))
      by (inl q) = rw q (has_more n v has)
      by (inr q) = rw q (inr (n, omega arith, e, refl))

    under_named : Under (suc n) (smaller v (class n))
    under_named j l m c = by (ℕ_discrete j n) where
      by : Dec (j ≡ n) → (1 ≤ smaller v (class n)) × (smaller v (class n) ≤ class j)
      by (yes q) = rw q (smaller_second v (class n) (rw q at c))
      by (no q) =
          let u = under j (omega (arith, l, q)) m c in
          let s = smaller_first v (class n) (λ z. omega (arith, z, u.0)) in
          (s.0, omega (arith, s.1, u.1))

    -- with one that is not
    under_passed : named set n ≡ false → Under (suc n) v
    under_passed e j l m c = by (ℕ_discrete j n) where
      by : Dec (j ≡ n) → (1 ≤ v) × (v ≤ class j)
      by (yes q) = absurd (true≢false (sym (rw q at m) ∙ e))
      by (no q) = under j (omega (arith, l, q)) m c

  least_is : (n : ℕ) → Has n (least n) × Under n (least n)
  unfolding over_named through
  least_is zero = (inl refl, λ j l. absurd (omega (arith, l)))
  least_is (suc n) =
      let so = least_is n in
      by_test (named set n) (λ e. rw (least_next n, e) (has_named n (least n) so.0 so.1 e, under_named n (least n) so.0 so.1))
      (λ e. rw (least_next n, e) (has_more n (least n) so.0, under_passed n (least n) so.0 so.1 e))

-- "Class is the smallest non-zero number named, else 0."
pub smallest_named : (held : Held) (set : ℕ) → SmallestNamed held set (authorised_class held set)
unfolding authorised_class
smallest_named held set = let so = least_is held set (count_of held) in record { is_named = so.0; smallest = so.1 }
