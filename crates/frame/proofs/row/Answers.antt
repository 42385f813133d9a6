use Rattle.frame.proofs.Rows.{row_unmarked, row_no_number, row_more, row_end}
use borrow.Author.Tests.{lt-ltb}
use lib.ListN.{length}
use native.Mathlib.Omega.{arith}
use Rattle.frame.specs.Frame.{most_numbers, numbers_at}
use Rattle.frame.proofs.row.Goals as goal

pub returns-then-figures-gt-MOST_NUMBERS-clause-row : goal.returns-then-figures-gt-MOST_NUMBERS-clause-row
unfolding numbers_at
returns-then-figures-gt-MOST_NUMBERS-clause-row c =
    simp (lt-ltb most_numbers (length c.args.figures.now) (omega (arith, c.if-figures-gt-MOST_NUMBERS.true)))

pub returns-in_err-mark-clause-row : goal.returns-in_err-mark-clause-row
returns-in_err-mark-clause-row c =
    row_unmarked _ _ _ _ _ _ _ c.loop-place.invariant _ _ c.from_residual.ensures c.loop-place-test.true _ c.mark.ensures c.in_err-mark.was

pub returns-in_err-n-clause-row : goal.returns-in_err-n-clause-row
returns-in_err-n-clause-row c =
    row_no_number _ _ _ _ _ _ _ c.loop-place.invariant _ _ c.from_residual-in_err-n.ensures c.loop-place-test.true _ c.mark.ensures _ c.in_ok-mark.was _
    c.number.ensures c.in_err-n.was

pub loop-place-preserved : goal.loop-place-preserved
loop-place-preserved c =
    row_more _ _ _ _ _ _ _ c.loop-place.invariant c.loop-place-test.true _ _ c.mark.ensures c.in_ok-mark.was _ _ _ c.number.ensures c.in_ok-n.was

pub returns-clause-row : goal.returns-clause-row
returns-clause-row c = row_end _ _ _ _ _ _ _ c.loop-place.invariant c.loop-place-test.false
