use Rattle.callreader.proofs.Calls.{Checking}
use Rattle.callreader.proofs.section.calls_good.Given as goal

abbrev pub invariant-loop : goal.invariant-loop
invariant-loop l = Checking l.s l.fn.from.at l.count l.texts l.at.at l.counter
