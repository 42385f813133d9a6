-- What a session books, summed up in 64 bits: past 2^64 a sum begins again at 0. Of a session whose rates are in range no sum comes near
-- (`sums_all`), so that it is `rates_of`; of any other the look and the calls say 19.
use Rattle.std.specs.Prelude.{ℕ, ◌+◌, ◌%◌, ◌^◌, Bool, ◌&&◌}
use Rattle.flow.specs.declared.Component.{Component}
use Rattle.flow.specs.declared.Held.{Held}
use Rattle.flow.specs.declared.Rates.{Rates}
use Rattle.flow.specs.Session.{held_at, rate}
use Rattle.flow.specs.Range.{rates_in}
use Rattle.flow.specs.Slots.{through}
use Rattle.book.specs.Booking.{no_rates}

-- a sum with a component's media and RTCP rates
abbrev pub more : ℕ → ℕ → ℕ → ℕ
more sum media rtcp = (sum + (media + rtcp) % 2 ^ 64) % 2 ^ 64

abbrev pub with_component : Rates → Component → Rates
with_component sum c =
    record {
      up = rate (more sum.up.0 c.up.media c.up.rtcp.0);
      down = rate (more sum.down.0 c.down.media c.down.rtcp.0);
    }

-- the first n components
unfoldable pub sums_to : Held → ℕ → Rates
sums_to held = through (λ j sum. with_component sum (held_at held j)) no_rates

abbrev pub sums_of : Held → Rates
sums_of held = sums_to held 8

-- whether the rates of a component are in range
unfoldable pub component_rates : Component → Bool
component_rates c = rates_in c.up && rates_in c.down
