use Rattle.flow.specs.Derive.{flows_of}
use Rattle.flow.specs.Described.{described_up, described_down}
use Rattle.policy.proofs.exchange.flows_of.Goals as goal

pub returns : goal.returns
unfolding flows_of described_up described_down
returns c = rw (c.way_to-2.ensures, c.way_to.ensures, c.is_described-down.ensures, c.is_described-up.ensures, c.stays_both-both.ensures, c.into.ensures, c.status_of-status.ensures, c.sides.ensures.up, c.sides.ensures.down)
