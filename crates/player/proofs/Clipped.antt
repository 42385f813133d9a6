-- A part of a text whose two places may lie past its end, or in the wrong order, is the part between the places that are cut off there.
-- Assumes nothing.
use Prim.Native.Nat.{ℕ, ◌-◌, ◌≤◌, ◌<◌, min}
use mathlib.Core.Path.{◌≡◌, refl, ap, sym, ◌∙◌}
use mathlib.Core.List.{List, []}
use mathlib.Core.Bool.{Bool, true, false}
use lib.ListN.{length, take, drop, length-drop, drop_of_length-le}
use lib.Seq.{take_all, take-nil}
use lib.Dec.{ltb}
use native.Mathlib.Omega.{arith}
use borrow.Author.Tests.{ltb-true, ltb-false}
use Rattle.cursor.specs.Parts.{part}
use Rattle.frame.specs.declared.Span.{Span}
use Rattle.evening.specs.Playing.{spanned}

none : (n : ℕ) (l : List ℕ) → n ≡ 0 → take n l ≡ []
none n l e = ap (λ (k : ℕ). take k l) e

past : (s : List ℕ) (from n : ℕ) → length s ≤ from → take n (drop from s) ≡ []
past s from n h = ap (λ (l : List ℕ). take n l) (drop_of_length-le s h) ∙ take-nil n

all : (s : List ℕ) (from n : ℕ) → length s - from ≤ n → take n (drop from s) ≡ drop from s
all s from n h = take_all n (drop from s) (omega (arith, length-drop from s))

-- e is the least of `end` and the length, f the least of `from` and e
module _ (s : List ℕ) (from end e f : ℕ) (h : (e ≤ end) × (e ≤ length s) × (e < end → e ≡ length s)) (k : (f ≤ from) × (f ≤ e) × (f < from → f ≡ e)) where
  clipped : take (e - f) (drop f s) ≡ part s from end
  clipped = by (ltb f from) (ltb e end) refl refl where
    by : (t u : Bool) → ltb f from ≡ t → ltb e end ≡ u → take (e - f) (drop f s) ≡ part s from end
    by true true p q =
        let a = ltb-true f from p in
        let b = k.2 a in
        let c = h.2 (ltb-true e end q) in
        none (e - f) (drop f s) (omega (arith, b)) ∙ sym (past s from (end - from) (omega (arith, a, b, c)))
    by true false p q =
        let a = ltb-true f from p in
        let b = k.2 a in
        none (e - f) (drop f s) (omega (arith, b)) ∙ sym (none (end - from) (drop from s) (omega (arith, a, b, ltb-false e end q)))
    by false true p q =
        let a : f ≡ from = omega (arith, ltb-false f from p, k.0) in
        let b = ltb-true e end q in
        let c = h.2 b in
        ap (λ (j : ℕ). take (e - j) (drop j s)) a ∙ all s from (e - from) (omega (arith, c)) ∙ sym (all s from (end - from) (omega (arith, b, c)))
    by false false p q =
        let a : f ≡ from = omega (arith, ltb-false f from p, k.0) in
        let b : e ≡ end = omega (arith, ltb-false e end q, h.0) in
        ap (λ (j : ℕ). take (e - j) (drop j s)) a ∙ ap (λ (j : ℕ). take (j - from) (drop from s)) b

-- `spanned`
pub cut_off : (s : List ℕ) (span : Span) (e f : ℕ) → e ≡ min span.end (length s) → f ≡ min span.from e → take (e - f) (drop f s) ≡ spanned s span
cut_off s span e f h k =
    clipped s span.from span.end e f (omega (arith, h), omega (arith, h), λ p. omega (arith, h, p)) (omega (arith, k), omega (arith, k), λ p. omega (arith, k, p))
