use Rattle.std.proofs.Common.{rules}
use Rattle.lending.proofs.Modelled.{cancel_meets}
use Rattle.lending.proofs.cancel.Goals as goal

pub returns : goal.returns
returns c = cancel_meets _ _ _ _ (c.step.ensures _ (λ n s p. search rules))
