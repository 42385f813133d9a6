-- Booked rates. "Booked up, or down, is the sum of all media and RTCP rates over all rows."
use Rattle.std.specs.Prelude.{ℕ, ◌+◌, ◌-◌, Bool, ◌||◌, ltb}
use Rattle.std.proofs.Math.IntN.{sub_ℕ}
use Rattle.flow.specs.declared.Held.{Held}
use Rattle.flow.specs.declared.Limit.{Limit}
use Rattle.flow.specs.declared.Rates.{Rates}
use Rattle.flow.specs.Bearer.{booked_up, booked_down}
use Rattle.flow.specs.Session.{held_at, rate}
use Rattle.flow.specs.Slots.{through}
use Rattle.book.specs.declared.Change.{Change}

-- what the first n components of a session book
unfoldable pub up_to : Held → ℕ → ℕ
up_to held = through (λ j sum. sum + booked_up (held_at held j)) 0

unfoldable pub down_to : Held → ℕ → ℕ
down_to held = through (λ j sum. sum + booked_down (held_at held j)) 0

-- what a session books
unfoldable pub rates_of : Held → Rates
rates_of held = record { up = rate (up_to held 8); down = rate (down_to held 8) }

abbrev pub no_rates : Rates
no_rates = record { up = rate 0; down = rate 0 }

-- "the change in booked rates up and down, as signed numbers, new minus old"
abbrev pub change_of : Rates → Rates → Change
change_of new old = record { up = sub_ℕ new.up.0 old.up.0; down = sub_ℕ new.down.0 old.down.0 }

-- 16: "new booked total above the pool, up or down". The new total is the total less the session's old booking and with its new one
unfoldable pub above : Limit → Rates → Rates → Rates → Bool
above pool total old new =
    ltb pool.up (total.up.0 - old.up.0 + new.up.0) || ltb pool.down (total.down.0 - old.down.0 + new.down.0)
