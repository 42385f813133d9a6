use borrow.Author.Tests.{le-ltb, lt-ltb, eq-eqb, ne_eqb}
use Rattle.cursor.specs.Cursor.{mark_at}
use Rattle.cursor.proofs.Cursor.mark.Goals as goal
use Rattle.cursor.proofs.Cursor.mark.Goals.{else-self-s-via-then-self-s+else-s-self, else-self-s-via-else-self-s}

pub returns-then-s-self : goal.returns-then-s-self
unfolding mark_at
returns-then-s-self c = simp (lt-ltb _ _ c.if-self-s.true, eq-eqb _ _ c.if-s-self.true)

pub returns-else-self-s : goal.returns-else-self-s
unfolding mark_at
returns-else-self-s c =
    elim c.else-self-s.branch [
      | else-self-s-via-then-self-s+else-s-self w ↦ simp (lt-ltb _ _ w.if-self-s.true, ne_eqb _ _ w.if-s-self.false)
      | else-self-s-via-else-self-s w ↦ simp (le-ltb _ _ w.if-self-s.false)
    ]
