use lib.ListN.{take}
use Rattle.put.specs.Put.{Takes}
use Rattle.put.proofs.Buffer.word.Given as goal

abbrev pub invariant-loop-b : goal.invariant-loop-b
invariant-loop-b l = Takes l.initial.self (take l.b-index l.w) l.self
