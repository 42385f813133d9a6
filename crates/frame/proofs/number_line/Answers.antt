use mathlib.Core.Path.{refl}
use Rattle.frame.specs.Frame.{number_line}
use Rattle.cursor.proofs.Kit.{some_none, some_is}
use Rattle.frame.proofs.number_line.Goals as goal

pub returns-in_err-n : goal.returns-in_err-n
unfolding number_line
returns-in_err-n c = some_none _ _ _ _ _ c.number.ensures c.in_err-n.was c.from_residual.ensures

pub returns-in_err-next : goal.returns-in_err-next
unfolding number_line
returns-in_err-next c =
    some_is _ _ _ _ _ _ c.number.ensures c.in_ok-n.was
    (some_none _ _ _ _ _ c.mark.ensures c.in_err-next.was c.from_residual-in_err-next.ensures)

pub returns : goal.returns
unfolding number_line
returns c = some_is _ _ _ _ _ _ c.number.ensures c.in_ok-n.was (some_is _ _ _ _ _ _ c.mark.ensures c.in_ok-next.was refl)
