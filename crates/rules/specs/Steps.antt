-- What `misfit` and `sum_over` give on the way. No promise cites it.
use Rattle.std.specs.Prelude.{ℕ, ◌+◌, Bool, false, not, ◌&&◌, ◌||◌, leb, eqb, Option, Some, None}
use Rattle.flow.specs.declared.Asked.{Asked}
use Rattle.flow.specs.declared.Component.{Component}
use Rattle.rules.specs.declared.bearing.Sum.{Sum}
use Rattle.flow.specs.declared.Fit.{Fit}
use Rattle.flow.specs.declared.Held.{Held}
use Rattle.flow.specs.Session.{live, held_at}
use Rattle.flow.specs.Slots.{some}
use Rattle.flow.specs.Bearer.{named, names_past, booked_up, booked_down, over_named, at_most, smaller, count_of}
use Rattle.flow.specs.Fit.{fits, misfit_at}

-- the fit, by the place of a misfit
abbrev pub fit_by : Option ℕ → Fit
fit_by None = fits
fit_by (Some place) = misfit_at place

abbrev pub no_sum : Sum
no_sum = record { up = 0; down = 0; class = 0; live = false }

abbrev pub adds : Sum → Component → Sum
adds s c =
    record {
      up = at_most (at_most (s.up + c.up.media) + c.up.rtcp.0);
      down = at_most (at_most (s.down + c.down.media) + c.down.rtcp.0);
      class = smaller s.class c.class;
      live = s.live || live c;
    }

abbrev pub within : Sum → Asked → Bool
within s asked = s.live && leb s.class asked.class && leb asked.up s.up && leb asked.down s.down

-- over the named of the first n slots, with the rates stopped
abbrev pub summed_in : Held → ℕ → ℕ → Sum
summed_in held set n =
    record {
      up = at_most (over_named (λ c sum. sum + booked_up c) 0 held set n);
      down = at_most (over_named (λ c sum. sum + booked_down c) 0 held set n);
      class = over_named (λ c least. smaller least c.class) 0 held set n;
      live = some (λ j. named set j && live (held_at held j)) n;
    }

abbrev pub summed : Held → ℕ → Sum
summed held set = summed_in held set (count_of held)

-- the set is not empty, and names none past the count
abbrev pub names_well : Held → ℕ → Bool
names_well held set = not (eqb set 0) && not (names_past set (count_of held))
