use mathlib.Core.Path.{refl}
use Rattle.policy.specs.StatusTable.{rows}
use Rattle.policy.proofs.Searching.{searching_next, found, none_left}
use Rattle.policy.proofs.status_table.status_by.Goals as goal

pub loop-row-init : goal.loop-row-init
unfolding rows
loop-row-init c = record { same = refl; passed = refl }

pub returns-then-fits : goal.returns-then-fits
returns-then-fits c = found _ _ _ _ _ c.loop-row.invariant c.loop-row-test.true c.fits.ensures c.if-fits.true

pub loop-row-preserved : goal.loop-row-preserved
loop-row-preserved c = searching_next _ _ _ _ _ c.loop-row.invariant c.loop-row-test.true c.fits.ensures c.if-fits.false

pub unreachable-requires : goal.unreachable-requires
unreachable-requires c = none_left _ _ _ c.loop-row.invariant c.loop-row-test.false
