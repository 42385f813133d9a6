-- The order of refusals, by computation. Assumes nothing.
use mathlib.Core.Path.{◌≡◌, refl}
use mathlib.Core.List.{map}
use Rattle.book.specs.CasesOrdered.{Trial, trials, tried}
use Rattle.book.proofs.Computing.{computing}

-- Of several faults, the first in the order of document 01 gives the number.
pub ordered : map tried trials ≡ map (λ (t : Trial). t.faults) trials
unfolding computing
ordered = refl
