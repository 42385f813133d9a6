use Rattle.callreader.proofs.Taking.{Taking}
use Rattle.callreader.proofs.section.texts_at.Given as goal

abbrev pub invariant-loop : goal.invariant-loop
invariant-loop l = Taking l.s l.count l.initial.at.at l.texts l.at.at l.counter
