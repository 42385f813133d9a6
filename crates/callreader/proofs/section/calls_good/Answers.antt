use Rattle.callreader.proofs.Calls.{check_bad, check_more, check_end}
use Rattle.callreader.proofs.section.calls_good.Goals as goal

pub returns-in_default : goal.returns-in_default
returns-in_default c = check_bad _ _ _ _ _ _ c.loop.invariant c.loop-test.true _ c.ask_at.ensures c.in_default.is

pub loop-preserved : goal.loop-preserved
loop-preserved c = check_more _ _ _ _ _ _ c.loop.invariant c.loop-test.true _ c.ask_at.ensures _ _ c.in-Some.is

pub returns : goal.returns
returns c = check_end _ _ _ _ _ _ c.loop.invariant c.loop-test.false
