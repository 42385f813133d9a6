use Rattle.put.proofs.Taking.{take_none, word_more}
use Rattle.put.proofs.Buffer.word.Goals as goal

pub loop-b-init : goal.loop-b-init
loop-b-init c = search take_none

pub loop-b-preserved : goal.loop-b-preserved
loop-b-preserved c = search word_more
