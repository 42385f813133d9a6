use Prim.Native.Nat.{◌-◌}
use lib.ListN.{length}
use Rattle.cursor.proofs.Parts.{Walking}
use Rattle.reader.proofs.Turns.{Going}
use Rattle.reader.proofs.scan.sections.Given as goal

abbrev pub invariant-lines : goal.invariant-lines
invariant-lines l = Going l.lines.text.now l.from l.out l.here

abbrev pub decreases-lines : goal.decreases-lines
decreases-lines l = length l.lines.text.now - l.here.at

abbrev pub invariant-fields : goal.invariant-fields
invariant-fields l = Walking l.v l.head.formats.at l.c.at

abbrev pub decreases-fields : goal.decreases-fields
decreases-fields l = length l.v - l.c.at
