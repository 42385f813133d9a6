use Rattle.put.proofs.Digits.{decimal_small, decimal_more}
use Rattle.put.proofs.Taking.{take_then}
use Rattle.put.proofs.number.U64Number.+put.Goals as goal
use Rattle.put.proofs.number.U64Number.+put.Goals.{then-self-gt9, else-self-gt9}

pub returns : goal.returns
returns t c =
    elim c.if-self-gt9.branch [
      | then-self-gt9 w ↦ rw (decimal_more _ w.if-self-gt9.true c.ranges.self.fits) (take_then w.put.ensures (rw w.out-is at c.byte.ensures))
      | else-self-gt9 w ↦ rw (decimal_small _ w.if-self-gt9.false) (rw w.out-is at c.byte.ensures)
    ]
