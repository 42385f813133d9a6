use Rattle.policy.proofs.Fits.{fits_by}
use Rattle.policy.proofs.status_table.StatusRow.fits.Goals as goal

pub returns : goal.returns
returns c = rw (c.is_met.ensures, c.is_met-2.ensures, c.is_met-3.ensures) (fits_by c.args.self.now c.args.c.now)
