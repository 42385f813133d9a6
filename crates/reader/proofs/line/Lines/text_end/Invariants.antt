use Prim.Native.Nat.{◌-◌}
use Rattle.reader.proofs.Sight.{Sighted}
use Rattle.reader.proofs.line.Lines.text_end.Given as goal

abbrev pub invariant-loop-at : goal.invariant-loop-at
invariant-loop-at l = Sighted l.self.text.now l.from l.self.last l.at

abbrev pub decreases-loop-at : goal.decreases-loop-at
decreases-loop-at l = l.self.last - l.at

abbrev pub invariant-loop-end : goal.invariant-loop-end
invariant-loop-end l = Sighted l.self.text.now l.from l.self.last l.end
