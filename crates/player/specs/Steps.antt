-- A step on a row, a look at the book and the totals, as the player has them.
use Rattle.std.specs.Prelude.{ℕ, Option, ◌+◌, ◌*◌, cond, ltb, pos, ◌+ℤ◌}
use Rattle.cursor.specs.Cursor.{on_some}
use Rattle.book.specs.declared.Change.{Change}
use Rattle.book.specs.declared.Seen.{Seen}
use Rattle.book.specs.declared.Stepped.{Stepped}
use Rattle.book.specs.Model.{After}
use Rattle.callfile.specs.declared.CallFile.{CallFile}

-- the row and the answer after a call
abbrev pub step_of : After → Stepped
step_of after = record { row = after.row; reply = after.out.reply }

-- what a look at sixteen rows in range sees: the booked totals
abbrev pub sixteen : ℕ → ℕ → Seen
sixteen up down = record { rows = 16; sound = 1; booked = record { up = record { 0 = up }; down = record { 0 = down } } }

-- the sum of all changes
abbrev pub no_totals : Change
no_totals = record { up = pos 0; down = pos 0 }

abbrev pub added_to : Change → Change → Change
added_to totals change = record { up = totals.up +ℤ change.up; down = totals.down +ℤ change.down }

-- how many calls the file counts; none where it is malformed
abbrev pub calls_of : Option CallFile → ℕ
calls_of file = on_some file 0 λ f. f.calls

-- room for any evening of so many calls
unfoldable pub room_for : ℕ → ℕ
room_for calls = cond (ltb 4294967295 calls) 18446744073709551615 (128 + 128 * calls)

-- room for any evening: no file has more than 12,288 calls
abbrev pub most_room : ℕ
most_room = 1572992
