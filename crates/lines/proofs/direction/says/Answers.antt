use Rattle.sdp.specs.Direction.{direction_of}
use Rattle.cursor.proofs.Kit.{answers}
use Rattle.lines.proofs.direction.says.Goals as goal

pub returns-then-same : goal.returns-then-same
unfolding direction_of
returns-then-same c = search answers

pub returns-then-same-2 : goal.returns-then-same-2
unfolding direction_of
returns-then-same-2 c = search answers

pub returns-then-same-3 : goal.returns-then-same-3
unfolding direction_of
returns-then-same-3 c = search answers

pub returns-then-same-4 : goal.returns-then-same-4
unfolding direction_of
returns-then-same-4 c = search answers

pub returns : goal.returns
unfolding direction_of
returns c = search answers
