-- Laws of the slots: reading one of the eight, the count, one step of what goes through them, whether some slot passes a test. Assumes nothing.
use Prim.Native.Nat.{ℕ, zero, suc, ◌+◌, ◌≤◌, ◌<◌, min}
use mathlib.Core.Path.{◌≡◌, refl, ap₂}
use mathlib.Core.Logic.{◌⊎◌, inl, inr}
use mathlib.Core.Bool.{Bool, true, false, ◌||◌, ◌&&◌, false≢true}
use lib.ListN.{get_or, get_or-eq_default}
use lib.Dec.{ltb}
use native.Mathlib.Omega.{arith}
use native.Mathlib.Decide.{ℕ_discrete}
use borrow.Author.Tests.{ltb-true, ltb-false, lt-ltb, le-ltb}
use Rattle.sdp.proofs.Tests.{and_left, and_right, and_both}
use Rattle.flow.specs.Slots.{through, some, every, slots, up_to_eight}
use Rattle.flow.proofs.Tests.{by_test, or_either, either_or}

-- Each of the eight slots is in the list at its place.
pub slots_at : {A : Type 0} (f : ℕ → A) (none : A) (j : ℕ) → j < 8 → get_or (slots f) j none ≡ f j
unfolding slots
slots_at f none zero h = refl
slots_at f none (suc zero) h = refl
slots_at f none (suc (suc zero)) h = refl
slots_at f none (suc (suc (suc zero))) h = refl
slots_at f none (suc (suc (suc (suc zero)))) h = refl
slots_at f none (suc (suc (suc (suc (suc zero))))) h = refl
slots_at f none (suc (suc (suc (suc (suc (suc zero)))))) h = refl
slots_at f none (suc (suc (suc (suc (suc (suc (suc zero))))))) h = refl
slots_at f none (suc (suc (suc (suc (suc (suc (suc (suc j)))))))) h = absurd (omega arith)

-- Past the eight slots the list has nothing.
pub slots_past : {A : Type 0} (f : ℕ → A) (none : A) (j : ℕ) → 8 ≤ j → get_or (slots f) j none ≡ none
unfolding slots
slots_past f none j h = get_or-eq_default (slots f) none h

-- Two lists of eight are the same where their slots are.
pub slots_same : {A : Type 0} (f g : ℕ → A) → ((j : ℕ) → j < 8 → f j ≡ g j) → slots f ≡ slots g
unfolding slots
slots_same f g h =
    rw (h 0 (omega arith), h 1 (omega arith), h 2 (omega arith), h 3 (omega arith), h 4 (omega arith), h 5 (omega arith), h 6 (omega arith), h 7 (omega arith))

-- A count up to eight is at most eight.
pub eight_most : (count : ℕ) → up_to_eight count ≤ 8
unfolding up_to_eight
eight_most count = by_test (ltb 8 count) (λ e. rw e (omega arith)) (λ e. rw e (ltb-false 8 count e))

-- It is the smaller of the count and eight.
pub eight_min : (count : ℕ) → min count 8 ≡ up_to_eight count
unfolding up_to_eight
eight_min count = by_test (ltb 8 count) (λ e. rw e (omega (arith, ltb-true 8 count e))) (λ e. rw e (omega (arith, ltb-false 8 count e)))

-- A count that is at most eight is its own count up to eight.
pub eight_same : (count : ℕ) → count ≤ 8 → up_to_eight count ≡ count
unfolding up_to_eight
eight_same count h = rw (le-ltb 8 count h)

-- Of the eight slots, those below a count up to eight are those below the count.
pub eight_below : (count j : ℕ) → j < 8 → ltb j (up_to_eight count) ≡ ltb j count
unfolding up_to_eight
eight_below count j h =
    by_test (ltb 8 count) (λ e. rw (e, lt-ltb j 8 h, lt-ltb j count (omega (arith, ltb-true 8 count e)))) (λ e. rw e)

-- Where some slot of the first n passes the test, there is one below n that passes it.
pub some_has : (p : ℕ → Bool) (n : ℕ) → some p n ≡ true → (j : ℕ) × (j < n) × (p j ≡ true)
unfolding some through
some_has p zero e = absurd (false≢true e)
some_has p (suc n) e = by (some_has p n) (or_either (some p n) (p n) e) where
  by : (some p n ≡ true → (j : ℕ) × (j < n) × (p j ≡ true)) → (some p n ≡ true) ⊎ (p n ≡ true) → (j : ℕ) × (j < suc n) × (p j ≡ true)
  by k (inl h) = ((k h).0, omega (arith, (k h).1), (k h).2)
  by k (inr h) = (n, omega arith, h)

-- Where there is one below n that passes it, some slot of the first n passes the test.
pub has_some : (p : ℕ → Bool) (n j : ℕ) → j < n → p j ≡ true → some p n ≡ true
unfolding some through
has_some p zero j h e = absurd (omega arith)
has_some p (suc n) j h e = either_or (some p n) (p n) (by (has_some p n j) (ℕ_discrete j n)) where
  by : (j < n → p j ≡ true → some p n ≡ true) → Dec (j ≡ n) → (some p n ≡ true) ⊎ (p n ≡ true)
  by k (yes q) = inr (rw q at e)
  by k (no q) = inl (k (omega arith) e)

-- The test of some slot is the same where the tests of the slots are.
pub some_same : (p q : ℕ → Bool) (n : ℕ) → ((j : ℕ) → j < n → p j ≡ q j) → some p n ≡ some q n
unfolding some through
some_same p q zero h = refl
some_same p q (suc n) h = ap₂ ◌||◌ (some_same p q n λ j k. h j (omega (arith, k))) (h n (omega arith))

-- The test of every slot is the same where the tests of the slots are.
pub every_same : (p q : ℕ → Bool) (n : ℕ) → ((j : ℕ) → j < n → p j ≡ q j) → every p n ≡ every q n
unfolding every through
every_same p q zero h = refl
every_same p q (suc n) h = ap₂ ◌&&◌ (every_same p q n λ j k. h j (omega (arith, k))) (h n (omega arith))

-- one step of what goes through the slots
pub through_next : {A : Type 0} (f : ℕ → A → A) (z : A) (n : ℕ) → through f z (n + 1) ≡ f n (through f z n)
unfolding through
through_next f z n = let e : n + 1 ≡ suc n = omega arith in rw e

pub some_next : (p : ℕ → Bool) (n : ℕ) → some p (n + 1) ≡ (some p n || p n)
unfolding some
some_next p n = through_next (λ j found. found || p j) false n

pub every_next : (p : ℕ → Bool) (n : ℕ) → every p (n + 1) ≡ (every p n && p n)
unfolding every
every_next p n = through_next (λ j so_far. so_far && p j) true n

-- Where every one of the first n slots passes the test, each does.
pub every_has : (p : ℕ → Bool) (n : ℕ) → every p n ≡ true → (j : ℕ) → j < n → p j ≡ true
unfolding every through
every_has p zero e j h = absurd (omega arith)
every_has p (suc n) e j h = by (every_has p n (and_left (every p n) (p n) e)) (and_right (every p n) (p n) e) (ℕ_discrete j n) where
  by : ((i : ℕ) → i < n → p i ≡ true) → p n ≡ true → Dec (j ≡ n) → p j ≡ true
  by k l (yes q) = rw q l
  by k l (no q) = k j (omega arith)

-- Where each does, every one does.
pub has_every : (p : ℕ → Bool) (n : ℕ) → ((j : ℕ) → j < n → p j ≡ true) → every p n ≡ true
unfolding every through
has_every p zero h = refl
has_every p (suc n) h = and_both (every p n) (p n) (has_every p n (λ j k. h j (omega (arith, k)))) (h n (omega arith))
