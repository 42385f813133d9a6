use mathlib.Core.Path.{refl}
use native.Mathlib.Omega.{arith}
use Rattle.reader.proofs.Sight.{sight, sight_on, sight_stop, sixteen_on}
use Rattle.reader.proofs.line.Lines.text_end.Goals as goal

pub loop-at-init : goal.loop-at-init
loop-at-init c = sight _ _ _ c.requires c.args.self.now.last_end

pub overflow_add-at : goal.overflow_add-at
overflow_add-at c = omega (arith, c.loop-at.invariant.before, c.loop-at.invariant.end.within)

pub loop-at-preserved : goal.loop-at-preserved
loop-at-preserved c = sixteen_on _ _ _ _ c.loop-at.invariant c.loop-at-test.true _ refl (c.high.ensures.high c.if-high.true)

pub loop-end-preserved : goal.loop-end-preserved
loop-end-preserved c = sight_on _ _ _ _ c.loop-end.invariant _ c.is_text.ensures c.if-not-is_text.false

pub returns-then-not-is_text : goal.returns-then-not-is_text
returns-then-not-is_text c = sight_stop _ _ _ _ c.loop-end.invariant _ c.is_text.ensures c.if-not-is_text.true

pub returns : goal.returns
returns c = absurd (omega (arith, c.loop-end.invariant.before, c.loop-end-test.false))
