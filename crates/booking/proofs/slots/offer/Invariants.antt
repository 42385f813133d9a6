use Rattle.std.proofs.Common.{◌≡◌}
use Rattle.booking.specs.Slots.{offer_to}
use Rattle.booking.proofs.slots.offer.Given as goal

abbrev pub invariant-loop-j : goal.invariant-loop-j
invariant-loop-j l = l.good ≡ offer_to l.row l.j
