use Rattle.sdp.specs.Media.{kind_of}
use Rattle.cursor.proofs.Kit.{answers}
use Rattle.heads.proofs.kind_of.Goals as goal

pub returns-then-same : goal.returns-then-same
unfolding kind_of
returns-then-same c = search answers

pub returns-then-same-2 : goal.returns-then-same-2
unfolding kind_of
returns-then-same-2 c = search answers

pub returns-then-same-3 : goal.returns-then-same-3
unfolding kind_of
returns-then-same-3 c = search answers

pub returns-then-same-4 : goal.returns-then-same-4
unfolding kind_of
returns-then-same-4 c = search answers

pub returns-then-same-5 : goal.returns-then-same-5
unfolding kind_of
returns-then-same-5 c = search answers

pub returns : goal.returns
unfolding kind_of
returns c = search answers
