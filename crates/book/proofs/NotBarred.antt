-- What is not barred: rates in range, and of an offer an origin 0 or 1. Assumes nothing.
use Prim.Native.Nat.{ℕ, ◌≤◌}
use native.Mathlib.Omega.{arith}
use mathlib.Core.Path.{◌≡◌}
use mathlib.Core.Bool.{Bool, true, not, ◌||◌}
use lib.Dec.{leb, eqb}
use borrow.Author.Tests.{leb-true, not-false}
use Rattle.sdp.proofs.Tests.{and_left, and_right}
use Rattle.flow.proofs.Tests.{neither_right, by_test}
use Rattle.book.specs.declared.Row.{Row}
use Rattle.book.specs.declared.Seen.{Seen}
use Rattle.book.specs.Calls.{barred}
use Rattle.sdp.specs.Range.{from1}
use Rattle.flow.specs.Range.{held_rates, held_in}
use Rattle.book.specs.Sound.{offer_in, is_sound}

-- The rates of a row that is not barred are in range.
pub not_barred : (seen : Seen) (row : Row) (well : Bool) (b : ℕ) → b ≡ barred seen row well → b ≡ 0 → held_rates row.held ≡ true
unfolding barred
not_barred seen row well b e z =
    by_test (not (from1 16 seen.rows) || not well) (λ t. absurd (omega (arith, z, rw t at e)))
    (λ t.
    by_test (eqb seen.sound 0 || not (held_rates row.held)) (λ u. absurd (omega (arith, z, rw (t, u) at e)))
    (λ u. not-false (held_rates row.held) (neither_right (eqb seen.sound 0) (not (held_rates row.held)) u)))

pub sound_held : (row : Row) → is_sound row ≡ true → held_in row.held ≡ true
unfolding is_sound
sound_held row e = and_left (held_in row.held) (offer_in row.offer) e

pub sound_offer : (row : Row) → is_sound row ≡ true → offer_in row.offer ≡ true
unfolding is_sound
sound_offer row e = and_right (held_in row.held) (offer_in row.offer) e

-- An origin that is not barred is 0 or 1.
pub origin_in : (row : Row) (seen : Seen) (b origin : ℕ) → b ≡ barred seen row (leb origin 1) → b ≡ 0 → origin ≤ 1
unfolding barred
origin_in row seen b origin is_b z =
    by_test (not (from1 16 seen.rows) || not (leb origin 1)) (λ t. absurd (omega (arith, z, rw t at is_b)))
    (λ t. leb-true origin 1 (not-false (leb origin 1) (neither_right (not (from1 16 seen.rows)) (not (leb origin 1)) t)))
