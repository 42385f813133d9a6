use Rattle.flow.specs.Before.{was_of}
use Rattle.flow.proofs.Tests.{bit_is}
use Rattle.policy.proofs.before.was_of.Goals as goal

pub returns : goal.returns
unfolding was_of
returns c = rw (c.from.ensures, c.from-2.ensures, c.from-3.ensures, c.is_live-live.ensures, c.is_described.ensures, c.is_described-2.ensures) (simp bit_is)
