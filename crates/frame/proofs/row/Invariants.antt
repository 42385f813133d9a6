use lib.ListN.{length}
use Rattle.frame.proofs.Rows.{Rowing}
use Rattle.frame.proofs.row.Given as goal

abbrev pub invariant-loop-place : goal.invariant-loop-place
invariant-loop-place l = Rowing l.s (length l.fn.figures) l.b l.fn.from.at l.figures l.at.at l.place-index
