use Rattle.cursor.specs.Cursor.{other}
use Rattle.cursor.proofs.Laws.{Counting}
use Rattle.cursor.proofs.Cursor.field.Given as goal

abbrev pub invariant-loop-b : goal.invariant-loop-b
invariant-loop-b l = Counting (other 32) l.b-items l.n l.b-index
