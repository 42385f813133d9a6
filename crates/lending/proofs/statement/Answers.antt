use Rattle.lending.proofs.Modelled.{statement_meets}
use Rattle.lending.proofs.statement.Goals as goal

pub returns-in-Ok : goal.returns-in-Ok
returns-in-Ok c = statement_meets _ _ _ _ _ (rw (← c.in-Ok.ensures.value) c.statement.ensures.value) (rw (← c.in-Ok.ensures.value) c.statement.ensures.out_after)

pub returns-in-Err : goal.returns-in-Err
returns-in-Err c = statement_meets _ _ _ _ _ (rw (← c.in-Err.ensures.value) c.into.ensures) (rw (← c.in-Err.ensures.value))
