use borrow.Author.Rules.{rules}
use Rattle.put.proofs.Taking.{puts_lent}
use Rattle.player.proofs.playing.put_all.Goals as goal

pub returns : goal.returns
returns c = puts_lent c.put_output.ensures (λ e. search rules)
