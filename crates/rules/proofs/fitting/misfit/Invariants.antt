use Rattle.rules.proofs.Fits.{Fitting}
use Rattle.rules.proofs.fitting.misfit.Given as goal

abbrev pub invariant-loop-j : goal.invariant-loop-j
invariant-loop-j l = Fitting l.offer l.answer l.j
