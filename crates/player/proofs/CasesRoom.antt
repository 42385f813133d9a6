-- The room for an evening of sixty calls is enough for one: computed. Assumes nothing.
use Prim.Native.Nat.{ℕ, zero, suc}
use mathlib.Core.Path.{◌≡◌, refl}
use mathlib.Core.List.{List, [], ◌++◌}
use mathlib.Core.Bool.{true}
use lib.Dec.{leb}
use lib.ListN.{length}
use Rattle.cursor.specs.Bytes.{bytes}
use Rattle.evening.specs.Playing.{output}
use Rattle.evening.proofs.Computing.{computing}
use Rattle.player.specs.Steps.{room_for, most_room}

abbrev times : ℕ → List ℕ → List ℕ
times zero line = []
times (suc n) line = line ++ times n line

-- each is answered with 10, in 15 or 16 bytes
abbrev file : List ℕ
file = bytes "6\n0\n0\n0\n0\n0\n0\n0\n60\n" ++ times 60 (bytes "B 99 1 2 0 0\n")

pub room_enough : (length (output file) ≡ 971) × (leb 971 (room_for 60) ≡ true)
unfolding computing room_for
room_enough = (refl, refl)

-- a quarter of 49,152 bytes
pub room_most : (room_for 12288 ≡ most_room) × (room_for 4294967296 ≡ 18446744073709551615)
unfolding room_for
room_most = (refl, refl)
