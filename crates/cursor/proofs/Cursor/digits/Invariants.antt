use Rattle.cursor.specs.Bytes.{is_digit}
use Rattle.cursor.proofs.Digits.{Reading}
use Rattle.cursor.proofs.Laws.{Counting}
use Rattle.cursor.proofs.Cursor.digits.Given as goal

abbrev pub invariant-loop-b : goal.invariant-loop-b
invariant-loop-b l =
    record {
      counted : Counting is_digit l.b-items l.n l.b-index;
      read : Reading l.b-items l.n l.v;
    }
