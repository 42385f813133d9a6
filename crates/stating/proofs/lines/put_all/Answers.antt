use borrow.Author.Rules.{rules}
use Rattle.put.proofs.Taking.{puts_lent}
use Rattle.stating.proofs.lines.put_all.Goals as goal

pub returns : goal.returns
returns c = puts_lent c.put_lines.ensures (λ e. search rules)
