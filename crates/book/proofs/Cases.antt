-- The starred cases, by computation. Assumes nothing.
use mathlib.Core.Path.{◌≡◌, refl}
use mathlib.Core.List.{map}
use Rattle.book.specs.Cases.{Case, cases, played}
use Rattle.book.proofs.Computing.{computing}

-- Each case of the table, played on a fresh book, gives the figures that document 01 says.
pub starred : map played cases ≡ map (λ (k : Case). k.figures) cases
unfolding computing
starred = refl
