use Rattle.std.proofs.Common.{rules}
use Rattle.lending.proofs.Modelled.{offer_meets}
use Rattle.lending.proofs.offer.Goals as goal

pub returns : goal.returns
returns c = offer_meets _ _ _ _ _ _ (c.step.ensures _ (λ n s p. search rules))
