-- The row that a call names among lent rows: computed. Assumes nothing.
use mathlib.Core.Path.{◌≡◌, refl}
use mathlib.Core.List.{List, [], ◌∷◌}
use Rattle.book.specs.declared.Row.{Row}
use Rattle.book.specs.Cases.{usual, answer_text}
use Rattle.book.specs.Demand3.{fresh_book}
use Rattle.book.specs.Model.{offers, end}
use Rattle.book.proofs.Computing as Book
use Rattle.book.specs.Calls.{cancel_step}
use Rattle.lending.specs.Steps.{found_at, stepped_at}

-- two rows, the second with an open offer
abbrev rows : List Row
rows = end usual (fresh_book 2) (offers 1 0 (answer_text []) ∷ [])

-- A cancel in each session, and past the rows. 12: "answer or cancel with none open"; 10: "session not below the rows lent".
pub cancel_finds :
    ((stepped_at cancel_step rows 0).reply.refusal ≡ 12)
    × ((stepped_at cancel_step rows 1).reply.refusal ≡ 0)
    × ((stepped_at cancel_step rows 2).reply.refusal ≡ 10)
unfolding Book.computing found_at
cancel_finds = (refl, refl, refl)
