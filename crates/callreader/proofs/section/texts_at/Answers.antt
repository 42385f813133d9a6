use Rattle.cursor.proofs.Kit.{tests, lt_no, some_none, some_is}
use Rattle.callfile.specs.Sections.{texts_at}
use Rattle.callreader.proofs.Taking.{take_bad, take_more, take_end}
use mathlib.Core.Path.{refl}
use Rattle.callreader.proofs.section.texts_at.Goals as goal

pub returns-in_err-count : goal.returns-in_err-count
unfolding texts_at
returns-in_err-count c = some_none _ _ _ _ _ c.number_line.ensures c.in_err-count.was c.from_residual.ensures

pub returns-then-count-gt64 : goal.returns-then-count-gt64
unfolding texts_at
returns-then-count-gt64 c = some_is _ _ _ _ _ _ c.number_line.ensures c.in_ok-count.was (search tests)

pub returns-in_err-span : goal.returns-in_err-span
unfolding texts_at
returns-in_err-span c =
    some_is _ _ _ _ _ _ c.number_line.ensures c.in_ok-count.was
    (lt_no _ _ _ _ _ c.if-count-gt64.false
    (take_bad _ _ _ _ _ _ c.loop.invariant c.loop-test.true _ c.text.ensures _ c.from_residual-in_err-span.ensures c.in_err-span.was))

pub loop-preserved : goal.loop-preserved
loop-preserved c = take_more _ _ _ _ _ _ c.loop.invariant c.loop-test.true _ c.text.ensures _ c.in_ok-span.was _ refl

pub returns : goal.returns
unfolding texts_at
returns c =
    some_is _ _ _ _ _ _ c.number_line.ensures c.in_ok-count.was
    (lt_no _ _ _ _ _ c.if-count-gt64.false (take_end _ _ _ _ _ _ c.loop.invariant c.loop-test.false))
