use Rattle.frame.specs.Frame.{text_at}
use Rattle.cursor.proofs.Kit.{tests, some_none, some_is}
use native.Mathlib.Omega.{arith}
use Rattle.frame.proofs.Lines.{lined}
use Rattle.frame.proofs.text.Goals as goal

pub returns-in_err-n : goal.returns-in_err-n
unfolding text_at
returns-in_err-n c = some_none _ _ _ _ _ c.number_line.ensures c.in_err-n.was c.from_residual.ensures

pub overflow_sub-s : goal.overflow_sub-s
overflow_sub-s c = (lined _ _ _ _ _ c.number_line.ensures c.in_ok-n.was).within

pub returns-then-s-from : goal.returns-then-s-from
unfolding text_at
returns-then-s-from c = some_is _ _ _ _ _ _ c.number_line.ensures c.in_ok-n.was (search tests)

pub overflow_add-result : goal.overflow_add-result
overflow_add-result c = let w = lined _ _ _ _ _ c.number_line.ensures c.in_ok-n.was in omega (arith, w.small, w.within)

pub returns : goal.returns
unfolding text_at
returns c = some_is _ _ _ _ _ _ c.number_line.ensures c.in_ok-n.was (search tests)
