use native.Mathlib.Omega.{arith}
use Rattle.cursor.proofs.Numbers.{figured}
use Rattle.lines.proofs.bandwidth.amount.Goals as goal

pub overflow_cast-result : goal.overflow_cast-result
overflow_cast-result c = omega (arith, (figured _ _ _ _ _ _ _ c.figure.ensures c.in_ok-n.was).small, c.from.ensures, c.ranges.max.fits)
