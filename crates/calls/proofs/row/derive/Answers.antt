use native.Mathlib.Omega.{arith}
use mathlib.Core.Path.{◌∙◌}
use Rattle.calls.proofs.Answering.{derived_in}
use Rattle.calls.proofs.Widths.{offered_fits}
use Rattle.calls.proofs.row.derive.Goals as goal

pub returns-clause-in_range : goal.returns-clause-in_range
returns-clause-in_range c = λ t good is.
    derived_in c.args.settings c.args.held _ c.args.offer _ t (c.derive.ensures ∙ rw (c.into.ensures, c.before_of-before.ensures)) good is
    (record {
      media = record { up = omega (arith, c.well_formed); down = omega (arith, c.well_formed) };
      rtcp = record { up = omega (arith, c.well_formed); down = omega (arith, c.well_formed) };
    })
    (offered_fits c.args.offer _ c.well_formed.1.1.0)
