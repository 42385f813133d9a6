-- The loop over a row of numbers: what is left of the row gives what the whole gives; and each number of a row is small. Assumes nothing.
use Rattle.std.specs.Prelude.{Option, Some, None}
use Prim.Native.Nat.{ℕ, zero, suc, ◌+◌, ◌-◌, ◌≤◌, ◌<◌}
use mathlib.Core.Path.{◌≡◌, refl, ap, ◌∙◌}
use mathlib.Core.List.{List, [], ◌∷◌, ◌++◌}
use mathlib.Core.Bool.{Bool, true, false, cond}
use lib.Dec.{ltb}
use lib.ListN.{length, get_or, set, take}
use lib.Seq.{take_all}
use native.Mathlib.Omega.{arith}
use Rattle.std.proofs.lemmas.List.{take_more_set, length-set}
use Rattle.cursor.specs.Cursor.{mark_at, on_some}
use Rattle.cursor.specs.declared.Cursor.{Cursor}
use Rattle.cursor.proofs.Parts.{clash, found}
use borrow.Author.Tests.{le-ltb}
use Rattle.frame.specs.Frame.{most_numbers, number_at, numbers_from, numbers_at, row_of}
use Rattle.frame.proofs.Lines.{number_small}

-- before number i of the row
pub record Rowing (s : List ℕ) (count b from : ℕ) (figures : List ℕ) (at i : ℕ) : Type 0 where
  pub few : count ≤ most_numbers
  pub room : length figures ≡ count
  pub same : numbers_from (count - i) s at b (take i figures) ≡ numbers_from count s from b []

pub row_begin : (s : List ℕ) (count b from : ℕ) (figures : List ℕ) → count ≤ most_numbers → length figures ≡ count → Rowing s count b from figures from 0
row_begin s count b from figures f h = let e : count - 0 ≡ count = omega arith in record { few = f; room = h; same = rw e }

module _ (s : List ℕ) (count b from : ℕ) (figures : List ℕ) (at i : ℕ) (k : Rowing s count b from figures at i) where
  left : i < count → count - i ≡ suc (count - (i + 1))
  left h = omega (arith, h)

  module _ (x : List ℕ) (r : Option Cursor) (none : r ≡ None) (h : i < count) (m : Option Cursor) (p : m ≡ mark_at s at b) where
    pub row_unmarked : m ≡ None → row_of x r ≡ numbers_at s from count b
    unfolding numbers_at numbers_from
    row_unmarked q = rw (le-ltb most_numbers count k.few) (ap (row_of x) none ∙ rw (left h, ← p, q) at k.same)

    pub row_no_number : (c : Cursor) → m ≡ Some c → (n : Option (ℕ × Cursor)) → n ≡ number_at s c.at → n ≡ None → row_of x r ≡ numbers_at s from count b
    unfolding numbers_at numbers_from
    row_no_number c q n v w = rw (le-ltb most_numbers count k.few) (ap (row_of x) none ∙ rw (left h, ← p, q, ← v, w) at k.same)

  pub row_more : i < count → (m : Option Cursor) (c : Cursor) → m ≡ mark_at s at b → m ≡ Some c
      → (f : Option (ℕ × Cursor)) (n : ℕ) (e : Cursor) → f ≡ number_at s c.at → f ≡ Some (n, e) → Rowing s count b from (set figures i n) e.at (i + 1)
  unfolding numbers_from
  row_more h m c p q f n e v w =
      record {
        few = k.few;
        room = length-set figures i n ∙ k.room;
        same =
            ap (numbers_from (count - (i + 1)) s e.at b) (take_more_set figures i n (omega (arith, h, k.room)))
            ∙ rw (left h, ← p, q, ← v, w) at k.same;
      }

  pub row_end : count ≤ i → Some (figures, record { at = at }) ≡ numbers_at s from count b
  unfolding numbers_at numbers_from
  row_end h =
      let e : count - i ≡ 0 = omega (arith, k.room) in
      rw (le-ltb most_numbers count k.few) (rw (e, take_all i figures (omega (arith, h, k.room))) at k.same)

-- what holds of each element holds after one more
snoc_each : {A : Type 0} (P : A → Type 0) (l : List A) (j : ℕ) (a d : A) → P a → P d → P (get_or l j d) → P (get_or (l ++ (a ∷ [])) j d)
snoc_each P [] zero a d p z q = p
snoc_each P [] (suc j) a d p z q = z
snoc_each P (x ∷ l) zero a d p z q = q
snoc_each P (x ∷ l) (suc j) a d p z q = snoc_each P l j a d p z q

abbrev Small : List ℕ → Type 0
Small figures = (j : ℕ) → get_or figures j 0 ≤ 4294967295

abbrev Rest : ℕ → List ℕ → ℕ → List ℕ → Cursor → Type 0
Rest k s b l c = (q : ℕ) (g : List ℕ) → Small g → numbers_from k s q b g ≡ Some (l, c) → Small l

from_small : (k : ℕ) (s : List ℕ) (at b : ℕ) (figures l : List ℕ) (c : Cursor) → Small figures → numbers_from k s at b figures ≡ Some (l, c) → Small l
unfolding numbers_from
from_small zero s at b figures l c h = λ e. let z = found e in rw (ap (λ (t : List ℕ × Cursor). t.0) z) h
from_small (suc k) s at b figures l c h = by (mark_at s at b) (λ q g. from_small k s q b g l c) where
  then : (p : ℕ) (f : Option (ℕ × Cursor)) → f ≡ number_at s p → Rest k s b l c
      → on_some f None (λ (n, q). numbers_from k s q.at b (figures ++ (n ∷ []))) ≡ Some (l, c) → Small l
  then p (Some (n, q)) e rest =
      rest q.at (figures ++ (n ∷ []))
      (λ j. snoc_each (λ (x : ℕ). x ≤ 4294967295) figures j n 0 (number_small s p n q (Some (n, q)) e refl) (omega arith) (h j))
  then p None e rest = λ z. clash (cc)

  by : (m : Option Cursor) → Rest k s b l c
      → on_some m None (λ p. on_some (number_at s p.at) None (λ (n, q). numbers_from k s q.at b (figures ++ (n ∷ [])))) ≡ Some (l, c) → Small l
  by (Some p) rest = then p.at (number_at s p.at) refl rest
  by None rest = λ z. clash (cc)

-- a row that was read has no more than twelve
pub row_read : (s : List ℕ) (at count b : ℕ) (figures : List ℕ) (c : Cursor) → numbers_at s at count b ≡ Some (figures, c) → numbers_from count s at b [] ≡ Some (figures, c)
unfolding numbers_at
row_read s at count b figures c = by (ltb most_numbers count) where
  by : (t : Bool) → cond t None (numbers_from count s at b []) ≡ Some (figures, c) → numbers_from count s at b [] ≡ Some (figures, c)
  by true e = clash (cc)
  by false e = e

-- each number of a row is small
pub numbers_small : (s : List ℕ) (at count b : ℕ) (figures : List ℕ) (c : Cursor) → numbers_at s at count b ≡ Some (figures, c) → (j : ℕ)
    → get_or figures j 0 ≤ 4294967295
numbers_small s at count b figures c e = from_small count s at b [] figures c (λ j. omega arith) (row_read s at count b figures c e)
