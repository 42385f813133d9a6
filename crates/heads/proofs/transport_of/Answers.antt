use Rattle.sdp.specs.Media.{transport_of}
use Rattle.cursor.proofs.Kit.{answers}
use Rattle.heads.proofs.transport_of.Goals as goal

pub returns-then-same : goal.returns-then-same
unfolding transport_of
returns-then-same c = search answers

pub returns-then-same-2 : goal.returns-then-same-2
unfolding transport_of
returns-then-same-2 c = search answers

pub returns : goal.returns
unfolding transport_of
returns c = search answers
