use native.Mathlib.Omega.{arith}
use Rattle.flow.proofs.Slots.{eight_most}
use Rattle.rules.proofs.Fits.{counts_differ, fitting_none, fitting_next, misfit_here, all_fit}
use Rattle.rules.proofs.fitting.misfit.Goals as goal

pub returns-then-offer-answer : goal.returns-then-offer-answer
returns-then-offer-answer c = counts_differ _ _ c.if-offer-answer.true

pub loop-j-init : goal.loop-j-init
loop-j-init c = fitting_none _ _

pub bounds-answer-j : goal.bounds-answer-j
bounds-answer-j c = omega (arith, c.used-offered-items.ensures.count, eight_most c.args.offer.now.count)

pub returns-then-is_misfit : goal.returns-then-is_misfit
returns-then-is_misfit c =
    misfit_here _ _ _ _ _ c.used-offered-items.ensures.first (omega (arith, c.used-offered-items.ensures.count)) c.loop-j.invariant c.is_misfit.ensures c.if-offer-answer.false c.if-is_misfit.true

pub loop-j-preserved : goal.loop-j-preserved
loop-j-preserved c =
    fitting_next _ _ _ _ _ c.used-offered-items.ensures.first (omega (arith, c.used-offered-items.ensures.count)) c.loop-j.invariant c.is_misfit.ensures c.if-is_misfit.false

pub returns : goal.returns
returns c = all_fit _ _ _ c.if-offer-answer.false c.loop-j.invariant (omega (arith, c.used-offered-items.ensures.count))
