-- A number that was read is small, and what is read ends within the bytes. Assumes nothing.
use Rattle.std.specs.Prelude.{Option, Some, None}
use Prim.Native.Nat.{ℕ, ◌+◌, ◌-◌, ◌≤◌}
use mathlib.Core.Path.{◌≡◌, refl, ap, sym, ◌∙◌}
use mathlib.Core.List.{List}
use mathlib.Core.Bool.{Bool, true, false, cond}
use lib.ListN.{length}
use lib.Dec.{ltb}
use native.Mathlib.Omega.{arith}
use borrow.Author.Tests.{ltb-false}
use Rattle.cursor.specs.Cursor.{mark_at, on_some}
use Rattle.cursor.specs.declared.Cursor.{Cursor}
use Rattle.cursor.proofs.Parts.{clash, found, mark_to}
use Rattle.cursor.proofs.Numbers.{figured}
use Rattle.frame.specs.Frame.{number_at, number_line, text_at}
use Rattle.frame.specs.declared.Span.{Span}

-- a number is small
pub number_small : (s : List ℕ) (at n : ℕ) (c : Cursor) (m : Option (ℕ × Cursor)) → m ≡ number_at s at → m ≡ Some (n, c) → n ≤ 4294967295
unfolding number_at
number_small s at n c m h e = (figured s at 10 4294967295 m n c h e).small

-- a number alone on its line is small, and the place after the line is within the bytes
pub record Lined (s : List ℕ) (n : ℕ) (c : Cursor) : Type 0 where
  pub small : n ≤ 4294967295
  pub within : c.at ≤ length s

pub lined : (s : List ℕ) (at n : ℕ) (c : Cursor) (m : Option (ℕ × Cursor)) → m ≡ number_line s at → m ≡ Some (n, c) → Lined s n c
unfolding number_line
lined s at n c m h e = by (number_at s at) refl (sym h ∙ e) where
  moves : (n' p : ℕ) → n' ≤ 4294967295 → (w : Option Cursor) → w ≡ mark_at s p 10 → on_some {A = Option (ℕ × Cursor)} w None (λ q. Some (n', q)) ≡ Some (n, c) → Lined s n c
  moves n' p few (Some q) hw z =
      let k = found z in
      let t = mark_to s p 10 (Some q) q hw refl in
      let v : n ≡ n' = ap (λ (t : ℕ × Cursor). t.0) k in
      record { small = omega (arith, few, v); within = omega (arith, t.0, t.1.1, ap (λ (t : ℕ × Cursor). t.1.at) k) }
  moves n' p few None hw z = clash (cc)

  by : (r : Option (ℕ × Cursor)) → r ≡ number_at s at → on_some {A = Option (ℕ × Cursor)} r None (λ (n, p). on_some (mark_at s p.at 10) None (λ q. Some (n, q))) ≡ Some (n, c)
      → Lined s n c
  by (Some (n', c')) q z = moves n' c'.at (number_small s at n' c' (Some (n', c')) q refl) (mark_at s c'.at 10) refl z
  by None q z = clash (cc)

abbrev span : ℕ → ℕ → Span
span from end = record { from = from; end = end }

-- a text lies within the bytes
pub text_within : (s : List ℕ) (at : ℕ) (p : Span) (m : Option Span) → m ≡ text_at s at → m ≡ Some p → (p.from ≤ p.end) × (p.end ≤ length s)
unfolding text_at
text_within s at p m h e = by (number_line s at) refl (sym h ∙ e) where
  fits : (n from : ℕ) (t : Bool) → from ≤ length s → ltb (length s - from) n ≡ t → cond t None (Some (span from (from + n))) ≡ Some p
      → (p.from ≤ p.end) × (p.end ≤ length s)
  fits n from true l q z = clash (cc)
  fits n from false l q z =
      let k = found z in
      let a : p.from ≡ from = ap (λ (x : Span). x.from) k in
      let b : p.end ≡ from + n = ap (λ (x : Span). x.end) k in
      (omega arith, omega (arith, ltb-false (length s - from) n q))

  by : (r : Option (ℕ × Cursor)) → r ≡ number_line s at → on_some r None (λ (n, q). cond (ltb (length s - q.at) n) None (Some (span q.at (q.at + n)))) ≡ Some p
      → (p.from ≤ p.end) × (p.end ≤ length s)
  by (Some (n, c)) q z = fits n c.at (ltb (length s - c.at) n) (lined s at n c (Some (n, c)) q refl).within refl z
  by None q z = clash (cc)
