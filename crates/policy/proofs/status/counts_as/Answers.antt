use Rattle.policy.proofs.Answers.{counted}
use Rattle.policy.proofs.status.counts_as.Goals as goal

pub returns : goal.returns
returns c = rw c.unwrap_or.ensures (counted c.args.direction _ c.try_from.ensures)
