-- Two evenings, by computation: demand 3 speaks of calls that cross, and moves them. Assumes nothing.
use mathlib.Core.Path.{◌≡◌, refl}
use Rattle.book.specs.Cases.{usual}
use Rattle.book.specs.CasesLeft.{evening_outs, evening_rows, serially_outs, night_outs, night_rows}
use Rattle.book.specs.Demand3.{fresh_book}
use Rattle.book.specs.Evening.{pooled, evening, serially, night}
use Rattle.book.specs.Model.{log, end}
use Rattle.book.proofs.Computing.{computing}

-- What each call answers, field by field.
pub evening_answers : log pooled (fresh_book 3) evening ≡ evening_outs
unfolding computing
evening_answers = refl

-- The rows in the end: one without its component, one with an open offer, one at a lower rate.
pub evening_rows_lem : end pooled (fresh_book 3) evening ≡ evening_rows
unfolding computing
evening_rows_lem = refl

-- What is left of it, played in its serial order: the same answers.
pub serially_answers : log pooled (fresh_book 3) serially ≡ serially_outs
unfolding computing
serially_answers = refl

-- The other evening.
pub night_answers : log usual (fresh_book 3) night ≡ night_outs
unfolding computing
night_answers = refl

pub night_rows_lem : end usual (fresh_book 3) night ≡ night_rows
unfolding computing
night_rows_lem = refl
