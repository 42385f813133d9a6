use Rattle.std.proofs.Common.{rules}
use Rattle.lending.proofs.Modelled.{answer_meets}
use Rattle.lending.proofs.answer.Goals as goal

pub returns : goal.returns
returns c = answer_meets _ _ _ _ _ _ (c.step.ensures _ (λ n s p. search rules))
