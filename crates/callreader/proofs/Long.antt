-- A row of k numbers has two bytes a number or more. Assumes nothing.
use Rattle.std.specs.Prelude.{Option, Some, None}
use Prim.Native.Nat.{ℕ, zero, suc, ◌+◌, ◌*◌, ◌≤◌, ◌<◌}
use mathlib.Core.Path.{◌≡◌, refl, ap}
use mathlib.Core.List.{List, [], ◌∷◌, ◌++◌}
use native.Mathlib.Omega.{arith}
use Rattle.cursor.specs.Cursor.{mark_at, on_some}
use Rattle.cursor.specs.declared.Cursor.{Cursor}
use Rattle.cursor.proofs.Parts.{clash, found, mark_to}
use Rattle.cursor.proofs.Numbers.{figured}
use Rattle.frame.specs.Frame.{number_at, numbers_from, numbers_at}
use Rattle.frame.proofs.Rows.{row_read}

-- a number has a digit or more
number_long : (s : List ℕ) (at n : ℕ) (c : Cursor) (m : Option (ℕ × Cursor)) → m ≡ number_at s at → m ≡ Some (n, c) → at < c.at
unfolding number_at
number_long s at n c m h e =
    let f = figured s at 10 4294967295 m n c h e in
    omega (arith, f.some, f.place)

abbrev Rest : ℕ → List ℕ → ℕ → List ℕ → Cursor → Type 0
Rest k s b l c = (q : ℕ) (figures : List ℕ) → numbers_from k s q b figures ≡ Some (l, c) → q + 2 * k ≤ c.at

from_long : (k : ℕ) (s : List ℕ) (at b : ℕ) (figures l : List ℕ) (c : Cursor) → numbers_from k s at b figures ≡ Some (l, c) → at + 2 * k ≤ c.at
unfolding numbers_from
from_long zero s at b figures l c = λ e. let z = ap (λ (t : List ℕ × Cursor). t.1.at) (found e) in omega (arith, z)
from_long (suc k) s at b figures l c = by (mark_at s at b) refl (λ q g. from_long k s q b g l c) where
  then : (p : ℕ) → p ≡ at + 1 → (f : Option (ℕ × Cursor)) → f ≡ number_at s p → Rest k s b l c
      → on_some f None (λ (n, q). numbers_from k s q.at b (figures ++ (n ∷ []))) ≡ Some (l, c) → at + 2 * suc k ≤ c.at
  then p e (Some (n, q)) g rest h = omega (arith, e, number_long s p n q (Some (n, q)) g refl, rest q.at (figures ++ (n ∷ [])) h)
  then p e None g rest h = clash (cc)

  by : (m : Option Cursor) → m ≡ mark_at s at b → Rest k s b l c
      → on_some m None (λ p. on_some (number_at s p.at) None (λ (n, q). numbers_from k s q.at b (figures ++ (n ∷ [])))) ≡ Some (l, c) → at + 2 * suc k ≤ c.at
  by (Some p) e rest h = then p.at (mark_to s at b (Some p) p e refl).1.1 (number_at s p.at) refl rest h
  by None e rest h = clash (cc)

pub numbers_long : (s : List ℕ) (at k b : ℕ) (l : List ℕ) (c : Cursor) → numbers_at s at k b ≡ Some (l, c) → at + 2 * k ≤ c.at
numbers_long s at k b l c e = from_long k s at b [] l c (row_read s at k b l c e)
