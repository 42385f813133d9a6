-- A call has four bytes of the file or more (`C 0` and LF), so that a file has at most 12,288 calls. Assumes nothing.
use Rattle.std.specs.Prelude.{Option, Some, None}
use Prim.Native.Nat.{ℕ, zero, suc, ◌+◌, ◌*◌, ◌≤◌}
use mathlib.Core.Path.{◌≡◌, refl}
use mathlib.Core.List.{List}
use mathlib.Core.Bool.{true, false, false≢true}
use lib.ListN.{length}
use native.Mathlib.Omega.{arith}
use borrow.Author.Tests.{eqb-true}
use Rattle.cursor.specs.Cursor.{on_some}
use Rattle.cursor.specs.declared.Cursor.{Cursor}
use Rattle.callfile.specs.declared.CallFile.{CallFile}
use Rattle.callfile.specs.declared.ask.Ask.{Ask}
use Rattle.callfile.specs.Ask.{ask_at, calls_good}
use Rattle.callfile.specs.Sections.{read_file}
use Rattle.callreader.proofs.Reading.{ask_long, sections_told}

pub calls_long : (k : ℕ) (s : List ℕ) (texts at : ℕ) → calls_good k s texts at ≡ true → at + 4 * k ≤ length s
unfolding calls_good
calls_long zero s texts at h = omega (arith, eqb-true at (length s) h)
calls_long (suc k) s texts at h = by (ask_at s at texts) refl h (λ p. calls_long k s texts p) where
  by : (m : Option (Ask × Cursor)) → ask_at s at texts ≡ m → on_some m false (λ (a, p). calls_good k s texts p.at) ≡ true
      → ((p : ℕ) → calls_good k s texts p ≡ true → p + 4 * k ≤ length s) → at + 4 * suc k ≤ length s
  by None e z rest = absurd (false≢true z)
  by (Some (a, p)) e z rest = omega (arith, ask_long s at texts a p e, rest p.at z)

pub file_few : (s : List ℕ) (file : CallFile) → read_file s ≡ Some file → file.calls ≤ 12288
file_few s file read =
    let t = sections_told s file read in
    omega (arith, t.short, calls_long file.calls s file.texts.count file.at.at t.good)
