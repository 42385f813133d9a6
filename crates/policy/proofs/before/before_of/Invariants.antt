use Rattle.policy.proofs.Beforehand.{Noted}
use Rattle.policy.proofs.before.before_of.Given as goal

abbrev pub invariant-loop-j : goal.invariant-loop-j
invariant-loop-j l = Noted l.held l.components l.j
