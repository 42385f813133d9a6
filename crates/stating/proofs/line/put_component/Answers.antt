use borrow.Author.Rules.{rules}
use Rattle.put.proofs.Taking.{puts_lent}
use Rattle.stating.proofs.Fields.{component_takes}
use Rattle.stating.proofs.line.put_component.Goals as goal

pub returns : goal.returns
returns c =
    puts_lent
    (component_takes _ _ c.number.ensures c.byte.ensures (rw c.name_of.ensures at c.word.ensures)
    (rw (c.from.ensures, c.from-2.ensures, c.from-3.ensures, c.from-4.ensures) at c.numbers.ensures) c.byte-2.ensures)
    (λ e. search rules)
