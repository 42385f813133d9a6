use Rattle.player.proofs.Turns.{Turn}
use Rattle.player.proofs.playing.put_answers.Given as goal

abbrev pub invariant-loop-i : goal.invariant-loop-i
invariant-loop-i l =
    Turn l.file.settings l.s l.file.texts.spans l.file.calls l.file.texts.count l.initial.out l.file.at.at l.out l.rows l.booked l.at.at l.i
