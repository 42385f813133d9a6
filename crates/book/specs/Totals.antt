-- The booked totals of a book. "Booked up, or down, is the sum of all media and RTCP rates over all rows."
use Rattle.std.specs.Prelude.{ℕ, ◌+◌, List, [], ◌∷◌}
use Rattle.book.specs.declared.Row.{Row}
use Rattle.book.specs.Booking.{rates_of}

-- a sum over all rows
abbrev pub sum_of : (Row → ℕ) → List Row → ℕ
sum_of f [] = 0
sum_of f (row ∷ rows) = f row + sum_of f rows

-- what one row books
abbrev pub row_up : Row → ℕ
row_up row = (rates_of row.held).up.0

abbrev pub row_down : Row → ℕ
row_down row = (rates_of row.held).down.0

abbrev pub booked_up_all : List Row → ℕ
booked_up_all = sum_of row_up

abbrev pub booked_down_all : List Row → ℕ
booked_down_all = sum_of row_down
