use Rattle.flow.specs.Gates.{gates_of}
use Rattle.flow.proofs.Tests.{bit_is}
use Rattle.rules.proofs.Answers.{rtcp_passes}
use Rattle.rules.proofs.gating.gates.Goals as goal

pub returns : goal.returns
unfolding gates_of
returns c =
    rw (c.from-2.ensures, c.from.ensures, c.from-rtcp.ensures, c.is_described-2.ensures, c.is_described.ensures, c.has_rtcp.ensures, c.passes-up.ensures, rtcp_passes c.args.c.now.status)
    (simp bit_is)
