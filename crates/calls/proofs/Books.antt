-- What a session books whose rates are in range, as it is added up: no sum of it is large. Assumes nothing.
use mathlib.Core.Path.{◌≡◌, ◌∙◌}
use mathlib.Core.Bool.{true}
use Rattle.flow.specs.declared.Held.{Held}
use Rattle.flow.specs.declared.Rates.{Rates}
use Rattle.flow.specs.Range.{held_rates}
use Rattle.book.specs.Booking.{rates_of}
use Rattle.book.proofs.SmallSums.{booked_small}
use Rattle.booking.specs.Sums.{sums_of}
use Rattle.booking.proofs.Adding.{sums_all}
use Rattle.calls.specs.Given.{IsSmall}

pub booked_in : (held : Held) (r : Rates) → r ≡ sums_of held → held_rates held ≡ true → (r ≡ rates_of held) × IsSmall r
booked_in held r e h = let k : r ≡ rates_of held = e ∙ sums_all held h in (k, rw k (booked_small held h))
