use Rattle.printing.proofs.Lines.{calls_takes}
use Rattle.printing.proofs.answer.put_calls.Goals as goal

pub returns : goal.returns
returns c = calls_takes _ c.word.ensures c.numbers.ensures c.byte.ensures
