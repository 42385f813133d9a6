-- Before: all that deriving reads of what was there.
use Rattle.std.specs.Prelude.{ℕ, Bool, cond, ◌&&◌, get_or, ltb}
use Rattle.flow.specs.declared.Component.{Component}
use Rattle.flow.specs.declared.Held.{Held}
use Rattle.flow.specs.declared.Was.{Was}
use Rattle.flow.specs.declared.Before.{Before}
use Rattle.flow.specs.Session.{held_at, live, described}
use Rattle.flow.specs.Slots.{slots}

unfoldable pub bit : Bool → ℕ
bit b = cond b 1 0

-- nothing was there
abbrev pub no_was : Was
no_was = record { kind = 0; live = 0; up = 0; down = 0 }

-- a component as it was; of a removed one no direction is described, whatever a host may lend
unfoldable pub was_of : Component → Was
was_of c = record { kind = c.kind; live = bit (live c); up = bit (live c && described c.up); down = bit (live c && described c.down) }

-- a slot past the count is nothing
unfoldable pub was_at : Held → ℕ → Was
was_at h j = cond (ltb j h.count) (was_of (held_at h j)) no_was

unfoldable pub before_of : Held → Before
before_of h = record { kept = h.kept; components = slots (was_at h) }

-- what was at slot j
abbrev pub before_at : Before → ℕ → Was
before_at b j = get_or b.components j no_was
