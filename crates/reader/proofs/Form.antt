-- The form of a line: `bare` and `is_line`, test by test. Assumes nothing.
use Prim.Native.Nat.{ℕ, zero, suc, ◌+◌, ◌<◌}
use mathlib.Core.Path.{◌≡◌, refl, ap, sym}
use mathlib.Core.List.{List, [], ◌∷◌, ◌++◌}
use mathlib.Core.Bool.{Bool, true, false, cond, not, ◌&&◌, false≢true}
use lib.ListN.{length, get_or}
use lib.Dec.{eqb, ltb, leb}
use native.Mathlib.Omega.{arith}
use borrow.Author.Tests.{eqb-true, ltb-true, ltb-false, ne_eqb, le-ltb, le-leb, lt-leb}
use Rattle.cursor.specs.Bytes.{all}
use Rattle.sdp.specs.Line.{is_text, is_letter, bare, is_line}
use Rattle.sdp.proofs.Tests.{and_left, and_right, if_left, if_right}
use Rattle.reader.proofs.Endings.{text_high}

-- `bare`: the CR of a CR LF goes, and nothing else
pub bare_cr : (x : List ℕ) → bare (x ++ (13 ∷ [])) ≡ x
unfolding bare
bare_cr [] = refl
bare_cr (b ∷ []) = refl
bare_cr (b ∷ c ∷ x) = ap (λ (l : List ℕ). b ∷ l) (bare_cr (c ∷ x))

pub bare_text : (x : List ℕ) → all is_text x ≡ true → bare x ≡ x
unfolding bare all is_text
bare_text [] h = refl
bare_text (b ∷ []) h = by (eqb b 0) (eqb b 10) (eqb b 13) h where
  by : (p q r : Bool) → cond (cond p false (cond q false (not r))) true false ≡ true → cond r [] (b ∷ []) ≡ b ∷ []
  by true q r h = absurd (false≢true h)
  by false true r h = absurd (false≢true h)
  by false false true h = absurd (false≢true h)
  by false false false h = refl
bare_text (b ∷ c ∷ x) h = ap (λ (l : List ℕ). b ∷ l) (bare_text (c ∷ x) (if_right (is_text b) _ h))

pub bare_keeps : (p : List ℕ) (i : ℕ) → i < length p → (i + 1 ≡ length p → get_or p i 0 ≡ 13 → ⊥) → (i < length (bare p)) × (get_or (bare p) i 0 ≡ get_or p i 0)
unfolding bare
bare_keeps [] i h f = absurd (omega arith)
bare_keeps (b ∷ []) zero h f = rw (ne_eqb b 13 (f (omega arith))) (omega arith, refl)
bare_keeps (b ∷ []) (suc i) h f = absurd (omega arith)
bare_keeps (b ∷ c ∷ l) zero h f = (omega arith, refl)
bare_keeps (b ∷ c ∷ l) (suc i) h f =
    let r = bare_keeps (c ∷ l) i (omega arith) (λ z e. f (omega (arith, z)) e) in
    (omega (arith, r.0), r.1)

-- the form of a line
pub all_at : (p : ℕ → Bool) (l : List ℕ) (i : ℕ) → all p l ≡ true → i < length l → p (get_or l i 0) ≡ true
unfolding all
all_at p [] i h k = absurd (omega arith)
all_at p (b ∷ l) zero h k = if_left (p b) _ h
all_at p (b ∷ l) (suc i) h k = all_at p l i (if_right (p b) _ h) (omega arith)

pub letter_text : (b : ℕ) → is_letter b ≡ true → is_text b ≡ true
unfolding is_letter
letter_text b h = by (ltb b 97) refl h where
  by : (t : Bool) → ltb b 97 ≡ t → cond t false (leb b 122) ≡ true → is_text b ≡ true
  by true e k = absurd (false≢true k)
  by false e k = sym (text_high b (omega (arith, ltb-false b 97 e)))

pub equals_text : (b : ℕ) → eqb b 61 ≡ true → is_text b ≡ true
equals_text b e = sym (text_high b (omega (arith, eqb-true b 61 e)))

pub line_text : (l : List ℕ) → is_line l ≡ true → (i : ℕ) → i < length l → is_text (get_or l i 0) ≡ true
unfolding is_line
line_text [] h i k = absurd (omega arith)
line_text (a ∷ []) h i k = absurd (false≢true h)
line_text (a ∷ b ∷ l) h zero k = letter_text a (and_left (is_letter a) _ h)
line_text (a ∷ b ∷ l) h (suc zero) k = equals_text b (and_left (eqb b 61) _ (and_right (is_letter a) _ h))
line_text (a ∷ b ∷ l) h (suc (suc i)) k =
    all_at is_text l i (and_left (all is_text l) _ (and_right (eqb b 61) _ (and_right (is_letter a) _ h))) (omega arith)

pub leb_not : (m n : ℕ) → leb m n ≡ cond (ltb n m) false true
leb_not m n = by (ltb n m) refl where
  by : (t : Bool) → ltb n m ≡ t → leb m n ≡ cond t false true
  by true e = lt-leb m n (ltb-true n m e)
  by false e = le-leb m n (ltb-false n m e)

pub form_tests : (x : List ℕ) → all is_text x ≡ true
    → is_line x ≡ cond (ltb (length x) 2) false (cond (ltb 256 (length x)) false (cond (is_letter (get_or x 0 0)) (eqb (get_or x 1 0) 61) false))
unfolding is_line all
form_tests [] h = refl
form_tests (a ∷ []) h = refl
form_tests (a ∷ b ∷ l) h =
    let r : all is_text l ≡ true = if_right (is_text b) _ (if_right (is_text a) _ h) in
    let n : ltb (length (a ∷ b ∷ l)) 2 ≡ false = le-ltb (length (a ∷ b ∷ l)) 2 (omega arith) in
    rw (r, n, leb_not (length (a ∷ b ∷ l)) 256) (by (is_letter a) (eqb b 61) (ltb 256 (length (a ∷ b ∷ l)))) where
      by : (p q t : Bool) → (p && (q && (true && cond t false true))) ≡ cond t false (cond p q false)
      by true true true = refl
      by true true false = refl
      by true false true = refl
      by true false false = refl
      by false q true = refl
      by false q false = refl
