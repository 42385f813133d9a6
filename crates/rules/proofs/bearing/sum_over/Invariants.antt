use Rattle.rules.proofs.Summing.{Summing}
use Rattle.rules.proofs.bearing.sum_over.Given as goal

abbrev pub invariant-loop-c : goal.invariant-loop-c
invariant-loop-c l = Summing l.held l.set l.sum l.rest l.c-index
