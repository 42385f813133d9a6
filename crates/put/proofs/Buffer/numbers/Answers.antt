use Rattle.put.proofs.Taking.{take_none, numbers_more}
use Rattle.put.proofs.Buffer.numbers.Goals as goal

pub loop-n-init : goal.loop-n-init
loop-n-init g c = search take_none

pub loop-n-preserved : goal.loop-n-preserved
loop-n-preserved g c = numbers_more g.N.Number.text _ _ _ c.loop-n.invariant c.loop-n-test.true c.n-item.is c.byte.ensures c.number.ensures
