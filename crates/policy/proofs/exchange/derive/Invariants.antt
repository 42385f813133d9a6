use Rattle.policy.proofs.Deriving.{Seen, Looked, Classing}
use Rattle.policy.proofs.exchange.derive.Given as goal

abbrev pub invariant-loop-j : goal.invariant-loop-j
invariant-loop-j l = Seen l.settings l.origin l.before l.offer l.answer l.components l.sight l.j

abbrev pub invariant-loop-was : goal.invariant-loop-was
invariant-loop-was l = Looked l.before l.initial.sight l.count l.sight l.was-index

abbrev pub invariant-loop-c : goal.invariant-loop-c
invariant-loop-c l = Classing l.kept l.initial.c-items l.c-items l.c-index
