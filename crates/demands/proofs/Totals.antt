-- The booked totals: the sums over all rows, what a change of one row does to them, and that a look at rows in their ranges finds them. Assumes nothing.
use Prim.Native.Nat.{ℕ, zero, suc, ◌+◌, ◌*◌, ◌≤◌, ◌<◌}
use native.Mathlib.Omega.{arith}
use mathlib.Core.Path.{◌≡◌, refl, ◌∙◌}
use mathlib.Core.List.{List, [], ◌∷◌}
use lib.ListN.{length, get_or, set, replicate}
use borrow.Author.Tests.{lt-ltb}
use Rattle.flow.specs.Session.{rate}
use Rattle.flow.specs.Slots.{through}
use Rattle.book.specs.declared.Row.{Row}
use Rattle.book.specs.declared.Seen.{Seen}
use Rattle.book.specs.Booking.{up_to, down_to, rates_of}
use Rattle.book.specs.Calls.{fresh_row}
use Rattle.book.specs.Look.{nothing_seen, wrapped, looked}
use Rattle.book.specs.Model.{look}
pub use Rattle.book.specs.Totals.{sum_of, row_up, row_down, booked_up_all, booked_down_all}
use Rattle.book.proofs.SmallSums.{booked_small}
use Rattle.book.specs.Sound.{RowRange}
use Rattle.book.proofs.Ranged.{range_sound, range_rates}
use Rattle.demands.proofs.RowRanges.{RowsRange}

-- With one row changed the sum changes by what that row does.
pub sum_set : (f : Row → ℕ) (rows : List Row) (j : ℕ) (row : Row) → j < length rows
    → sum_of f (set rows j row) + f (get_or rows j fresh_row) ≡ sum_of f rows + f row
sum_set f [] j row h = absurd (omega arith)
sum_set f (first ∷ rows) zero row h = omega arith
sum_set f (first ∷ rows) (suc j) row h = omega (arith, sum_set f rows j row (omega arith))

-- A sum over rows of which each adds nothing is 0.
pub sum_none : (f : Row → ℕ) (n : ℕ) (row : Row) → f row ≡ 0 → sum_of f (replicate n row) ≡ 0
sum_none f zero row h = refl
sum_none f (suc n) row h = omega (arith, h, sum_none f n row h)

-- A fresh row books nothing.
pub fresh_books : (row_up fresh_row ≡ 0) × (row_down fresh_row ≡ 0)
unfolding rates_of up_to down_to through
fresh_books = (refl, refl)

-- A row in its ranges books far below 2^40.
row_small : (row : Row) → RowRange row → (row_up row ≤ 1099511627776) × (row_down row ≤ 1099511627776)
row_small row r = booked_small row.held (range_rates row r)

-- no sum comes near the total at which it begins again
wraps_not : (n : ℕ) → n < 4611686018427387904 → wrapped n ≡ n
unfolding wrapped
wraps_not n h = omega (arith, h)

-- what a look saw, by its numbers
abbrev pub seen_of : ℕ → ℕ → ℕ → ℕ → Seen
seen_of rows sound up down = record { rows = rows; sound = sound; booked = record { up = rate up; down = rate down } }

seen_same : (sound : ℕ) {rows rows' up up' down down' : ℕ} → rows ≡ rows' → up ≡ up' → down ≡ down' → seen_of rows sound up down ≡ seen_of rows' sound up' down'
seen_same sound e f g = λ i. seen_of (e i) sound (f i) (g i)

-- A look at one row more in its ranges counts it and adds what it books.
looks_on : (seen : Seen) (row : Row) → RowRange row → seen.rows < 17 → seen.booked.up.0 + 1099511627776 < 4611686018427387904
    → seen.booked.down.0 + 1099511627776 < 4611686018427387904
    → looked seen row ≡ seen_of (seen.rows + 1) seen.sound (seen.booked.up.0 + row_up row) (seen.booked.down.0 + row_down row)
unfolding looked
looks_on seen row r few up down =
    rw (
      range_sound row r,
      lt-ltb seen.rows 17 few,
      wraps_not (seen.booked.up.0 + row_up row) (omega (arith, (row_small row r).0)),
      wraps_not (seen.booked.down.0 + row_down row) (omega (arith, (row_small row r).1)),
    )

-- A look at rows in their ranges, few enough, counts them and finds the sums.
look_adds : (rows : List Row) (seen : Seen) → RowsRange rows → seen.rows + length rows ≤ 17
    → seen.booked.up.0 + length rows * 1099511627776 < 4611686018427387904 → seen.booked.down.0 + length rows * 1099511627776 < 4611686018427387904
    → look seen rows ≡ seen_of (seen.rows + length rows) seen.sound (seen.booked.up.0 + booked_up_all rows) (seen.booked.down.0 + booked_down_all rows)
unfolding look
look_adds [] seen r few up down = seen_same seen.sound (omega arith) (omega arith) (omega arith)
look_adds (row ∷ rows) seen r few up down =
    rw (looks_on seen row (r.each 0) (omega arith) (omega arith) (omega arith))
    (look_adds rows (seen_of (seen.rows + 1) seen.sound (seen.booked.up.0 + row_up row) (seen.booked.down.0 + row_down row)) (record { each = λ j. r.each (suc j) })
    (omega arith)
    (omega (arith, (row_small row (r.each 0)).0))
    (omega (arith, (row_small row (r.each 0)).1))
    ∙ seen_same seen.sound (omega arith) (omega arith) (omega arith))

-- A look at a book of at most 16 rows in their ranges finds so many rows, all sound, and the booked totals.
pub look_finds : (rows : List Row) → RowsRange rows → length rows ≤ 16 → look nothing_seen rows ≡ seen_of (length rows) 1 (booked_up_all rows) (booked_down_all rows)
look_finds rows r few =
    look_adds rows nothing_seen r (omega arith) (omega arith) (omega arith) ∙ seen_same 1 (omega arith) (omega arith) (omega arith)
