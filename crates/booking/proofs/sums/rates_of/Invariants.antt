use Rattle.std.proofs.Common.{◌≡◌}
use Rattle.booking.specs.Sums.{sums_to}
use Rattle.booking.proofs.sums.rates_of.Given as goal

abbrev pub invariant-loop-c : goal.invariant-loop-c
invariant-loop-c l = l.sum ≡ sums_to l.held l.c-index
