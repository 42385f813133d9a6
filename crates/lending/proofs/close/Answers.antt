use Rattle.std.proofs.Common.{rules}
use Rattle.lending.proofs.Modelled.{close_meets}
use Rattle.lending.proofs.close.Goals as goal

pub returns : goal.returns
returns c = close_meets _ _ _ _ (c.step.ensures _ (λ n s p. search rules))
