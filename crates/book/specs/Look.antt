-- A look at all rows: how many there are, whether all are sound, and the booked totals.
use Rattle.std.specs.Prelude.{ℕ, ◌+◌, ◌%◌, ◌^◌, cond, ltb}
use Rattle.flow.specs.declared.Rates.{Rates}
use Rattle.flow.specs.Session.{rate}
use Rattle.book.specs.declared.Row.{Row}
use Rattle.book.specs.declared.Seen.{Seen}
use Rattle.book.specs.Booking.{rates_of, no_rates}
use Rattle.book.specs.Calls.{most_rows}
use Rattle.book.specs.Sound.{is_sound}

-- more rows than a book may have
abbrev pub too_many : ℕ
too_many = most_rows + 1

abbrev pub nothing_seen : Seen
nothing_seen = record { rows = 0; sound = 1; booked = no_rates }

-- a total in 64 bits: past 2^64, which no sixteen sound rows come near, it begins again at 0
unfoldable pub wrapped : ℕ → ℕ
wrapped n = n % 2 ^ 64

abbrev pub added : Rates → Rates → Rates
added a b = record { up = rate (wrapped (a.up.0 + b.up.0)); down = rate (wrapped (a.down.0 + b.down.0)) }

-- with one row more; more than sixteen are seventeen
unfoldable pub looked : Seen → Row → Seen
looked seen row =
    record {
      rows = cond (ltb seen.rows too_many) (seen.rows + 1) too_many;
      sound = cond (is_sound row) seen.sound 0;
      booked = cond (is_sound row) (added seen.booked (rates_of row.held)) seen.booked;
    }
