-- The rows lent, and the look at all of them.
use Rattle.std.specs.Prelude.{ℕ, List, get_or}
use Rattle.book.specs.declared.Row.{Row}
use Rattle.book.specs.declared.Seen.{Seen}
use Rattle.book.specs.Calls.{fresh_row}
use Rattle.book.specs.Model.{look}

-- the row at a place; past the rows a fresh one
abbrev pub row_at : List Row → ℕ → Row
row_at rows i = get_or rows i fresh_row

-- what is seen with all rows, from what was seen before
abbrev pub seen_all : List Row → Seen → Seen
seen_all rows seen = look seen rows
