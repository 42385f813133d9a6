use Rattle.printing.proofs.Lines.{changes_back, booked_takes}
use Rattle.printing.proofs.answer.put_booked.Goals as goal

pub returns : goal.returns
returns c = booked_takes _ _ c.word.ensures (changes_back _ _ c.ranges.up c.ranges.down c.numbers.ensures) c.byte.ensures
