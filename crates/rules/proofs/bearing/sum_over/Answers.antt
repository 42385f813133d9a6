use borrow.Author.Rules.{rules}
use native.Mathlib.Omega.{arith}
use mathlib.Core.Path.{◌≡◌, ◌∙◌}
use borrow.Author.Tests.{eq-eqb, ne_eqb}
use Rattle.rules.specs.Steps.{no_sum}
use Rattle.rules.proofs.Summing.{summing_none, summing_next, named_by}
use Rattle.rules.proofs.bearing.sum_over.Goals as goal
use Rattle.rules.proofs.bearing.sum_over.Goals.{then-rest-eq1, else-rest-eq1}

pub loop-c-init : goal.loop-c-init
loop-c-init c = let e : c.default-sum.result ≡ no_sum = search rules in rw e (summing_none c.args.held.now c.args.set)

pub loop-c-preserved : goal.loop-c-preserved
loop-c-preserved c =
    summing_next c.args.held.now c.args.set c.used-c-items.result.now c.loop-c.rest c.loop-c.c-index c.loop-c.sum c.if-rest-eq1.sum c.used-c-items.ensures.first
    (omega (arith, c.used-c-items.ensures.count)) c.loop-c.invariant
    (elim c.if-rest-eq1.branch [
      | then-rest-eq1 w ↦ rw (eq-eqb _ _ w.if-rest-eq1.true) (w.sum-is ∙ w.with-sum.ensures)
      | else-rest-eq1 w ↦ rw (ne_eqb _ _ w.if-rest-eq1.false) w.sum-is
    ])

pub returns : goal.returns
returns c = c.then_some.ensures ∙ named_by c.args.held.now c.args.set c.loop-c.rest c.loop-c.c-index c.loop-c.sum c.loop-c.invariant (omega (arith, c.used-c-items.ensures.count, c.loop-c-test.false))
