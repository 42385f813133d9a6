-- The output of any bytes fits the room for any evening. Assumes nothing.
use Rattle.std.specs.Prelude.{Option, Some, None}
use Prim.Native.Nat.{ℕ, ◌+◌, ◌*◌, ◌≤◌}
use mathlib.Core.Path.{◌≡◌, refl}
use Rattle.callfile.specs.declared.CallFile.{CallFile}
use Rattle.callfile.specs.Sections.{read_file}
use native.Mathlib.Omega.{arith}
use mathlib.Core.List.{List}
use lib.ListN.{length}
use Rattle.callreader.proofs.Few.{file_few}
use Rattle.evening.specs.Playing.{output}
use Rattle.player.specs.Steps.{calls_of, most_room}
use Rattle.player.proofs.Whole.{short}

-- A file has at most 12,288 calls, a line has at most 128 bytes (`answer_short`), and the first and the last line together at most as many.
pub output_fits : (s : List ℕ) → length (output s) ≤ most_room
output_fits s = by (read_file s) refl (short s) where
  by : (m : Option CallFile) → read_file s ≡ m → length (output s) ≤ 128 + 128 * calls_of m → length (output s) ≤ most_room
  by (Some file) e h = omega (arith, h, file_few s file e)
  by None e h = omega (arith, h)
