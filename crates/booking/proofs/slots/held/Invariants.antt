use Rattle.std.proofs.Common.{◌≡◌}
use Rattle.booking.specs.Slots.{held_to}
use Rattle.booking.proofs.slots.held.Given as goal

abbrev pub invariant-loop-j : goal.invariant-loop-j
invariant-loop-j l = l.t ≡ held_to l.row l.j
