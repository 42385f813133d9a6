use Rattle.std.proofs.Common.{rules}
use Rattle.std.proofs.iter.runs.Made.{chains}
use Rattle.booking.proofs.Passing.{rates_passed}
use Rattle.booking.proofs.sums.held_rates.Goals as goal

pub returns : goal.returns
returns c = rates_passed c.args.held.now _ (search rules) (search (rules, chains))
