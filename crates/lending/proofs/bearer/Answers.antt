use Rattle.lending.proofs.Modelled.{bearer_meets}
use Rattle.lending.proofs.bearer.Goals as goal

pub returns-in-Ok : goal.returns-in-Ok
returns-in-Ok c = bearer_meets _ _ _ _ (rw (← c.in-Ok.ensures.value) c.bearer.ensures)

pub returns-in-Err : goal.returns-in-Err
returns-in-Err c = bearer_meets _ _ _ _ (rw (← c.in-Err.ensures.value) c.into.ensures)
