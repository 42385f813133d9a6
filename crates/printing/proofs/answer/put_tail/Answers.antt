use native.Mathlib.Omega.{arith}
use borrow.Author.Rules.{rules}
use Rattle.printing.proofs.Lines.{changes_back, tells, bears, silent, tail_changes, tail_granted, tail_none}
use Rattle.printing.proofs.answer.put_tail.Goals as goal
use Rattle.printing.proofs.answer.put_tail.Goals.{in-65, in-66, in_default}

pub returns : goal.returns
returns c =
    elim c.match-letter.branch [
      | in-65 w ↦
          tail_changes _ _ (rw w.out-is at c.byte.ensures) (tells _ w.in-65.is) (changes_back _ _ (search rules) (search rules) w.numbers.ensures)
      | in-66 w ↦ tail_granted _ _ (rw w.out-is at c.byte.ensures) (bears _ w.in-66.is) w.in-66.is w.numbers-in-66.ensures
      | in_default w ↦
          tail_none c.args.letter _ (rw w.out-is at c.byte.ensures) (search silent) (omega arith)
    ]
