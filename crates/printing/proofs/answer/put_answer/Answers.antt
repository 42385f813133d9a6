use Rattle.printing.proofs.Lines.{answer_takes}
use Rattle.printing.proofs.answer.put_answer.Goals as goal

pub returns : goal.returns
returns c = answer_takes _ _ _ c.number.ensures c.byte.ensures c.byte-2.ensures c.numbers.ensures c.put_tail.ensures
