use Rattle.rules.proofs.Answers.{smaller_left, smaller_right, smaller_both}
use Rattle.rules.proofs.bearing.smaller_of.Goals as goal

pub returns-in_default : goal.returns-in_default
returns-in_default c = rw c.min.ensures (smaller_both c.args.a c.args.b c.in_default.is-0.1 c.in_default.is-1.1)

pub returns-in-0-default : goal.returns-in-0-default
returns-in-0-default c = smaller_left c.args.a c.args.b c.in-0-default.is-0

pub returns-in-0-default-2 : goal.returns-in-0-default-2
returns-in-0-default-2 c = smaller_right c.args.a c.args.b c.in-0-default.is-1
