use Rattle.std.proofs.Common.{rules}
use Rattle.booking.proofs.Gathered.{row_unsound, row_sound}
use Rattle.booking.proofs.look.with_row.Goals as goal

pub returns-then-not-held-offer : goal.returns-then-not-held-offer
returns-then-not-held-offer c = search (rules, row_unsound)

pub returns : goal.returns
returns c = search (rules, row_sound)
