use Rattle.std.proofs.Common.{sym}
use Rattle.console.proofs.Whole.{not_longer}
use Rattle.console.proofs.entries.answer_input.Goals as goal

pub returns-in-Some : goal.returns-in-Some
returns-in-Some g c =
    not_longer _ _ _ _ (rw (sym c.room-file.ensures) at (rw c.in-Some.is at c.in_ok-n.ensures.bytes)) c.answer_all.result
