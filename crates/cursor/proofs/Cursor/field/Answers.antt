use mathlib.Core.Path.{◌≡◌, ap, ◌∙◌}
use borrow.Author.Tests.{eq-eqb, ne_eqb}
use lib.ListN.{length, drop}
use Rattle.cursor.specs.Bytes.{front}
use Rattle.cursor.specs.Cursor.{other, field_at}
use Rattle.cursor.proofs.Laws.{count_none, count_step, count_stop, count_end, counted, field_none, field_some}
use Rattle.cursor.proofs.Cursor.field.Goals as goal
use Rattle.cursor.proofs.Cursor.field.Goals.{Left-loop-b, else-loop-b-test, then-loop-b-test+then-b-eq32}

pub loop-b-init : goal.loop-b-init
loop-b-init c = count_none _ _

pub loop-b-preserved : goal.loop-b-preserved
unfolding other
loop-b-preserved c = count_step (other 32) _ _ _ c.loop-b.invariant c.loop-b-test.true (simp (ne_eqb _ _ c.if-b-eq32.false))

-- where the loop is left, nothing more passes
all : (c : Left-loop-b) → c.loop-b.n ≡ length (front (other 32) (drop c.args.self.at c.args.s.now))
unfolding other
all c =
    counted (other 32) _ _ _ c.loop-b.invariant (elim c.loop-b-test.branch [
      | else-loop-b-test w ↦ count_end (other 32) _ _ _ c.loop-b.invariant w.loop-b-test.false
      | then-loop-b-test+then-b-eq32 w ↦ count_stop (other 32) _ _ _ c.loop-b.invariant w.loop-b-test.true (simp (eq-eqb _ _ w.if-b-eq32.true))
    ]) ∙ ap (λ l. length (front (other 32) l)) c.rest-b-items.ensures

pub returns-then-n-eq0 : goal.returns-then-n-eq0
unfolding field_at
returns-then-n-eq0 c = field_none _ _ _ (all (goal.at.returns-then-n-eq0 c).Left-loop-b) c.if-n-eq0.true

pub returns : goal.returns
unfolding field_at
returns c = field_some _ _ _ (all (goal.at.returns c).Left-loop-b) c.if-n-eq0.false
