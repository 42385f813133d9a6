use Rattle.put.proofs.Signs.{take_minus, take_no_minus}
use Rattle.put.proofs.number.I64Number.put.Goals as goal
use Rattle.put.proofs.number.I64Number.put.Goals.{then-self-lt0, else-self-lt0}

pub returns : goal.returns
returns c =
    elim c.if-self-lt0.branch [
      | then-self-lt0 w ↦ take_minus _ c.ranges.self _ c.unsigned_abs.ensures.value w.if-self-lt0.true w.byte.ensures (rw w.out-is at c.put.ensures)
      | else-self-lt0 w ↦ take_no_minus _ c.ranges.self _ c.unsigned_abs.ensures.value w.if-self-lt0.false (rw w.out-is at c.put.ensures)
    ]
