use Rattle.cursor.proofs.Kit.{tests}
use Rattle.policy.proofs.class.Sight.kept.Goals as goal

pub returns-then-self : goal.returns-then-self
returns-then-self c = search tests

pub returns-then-self-2 : goal.returns-then-self-2
returns-then-self-2 c = search tests

pub returns : goal.returns
returns c = search tests
