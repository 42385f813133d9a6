-- Demand 3 of a few calls, by computation and by no law: a server that does nothing, nods or invents changes fails here. Assumes nothing.
use mathlib.Core.Path.{◌≡◌, refl}
use mathlib.Core.Bool.{true}
use mathlib.Core.List.{List, [], ◌∷◌}
use lib.Dec.{eqb}
use lib.ListN.{get_or}
use Rattle.book.specs.Calls.{fresh_row}
use Rattle.book.specs.Cases.{usual}
use Rattle.book.specs.Model.{Call, offers, answers, end}
use Rattle.book.specs.Totals.{row_up, row_down}
use Rattle.book.specs.Demand3.{fresh_book, came, row_of, past_of, ChangesAreBooked}
use Rattle.book.specs.Evening.{pooled, first_offer, first_answer, slow, evening}
use Rattle.book.proofs.Computing.{computing}

-- First, and once more with a lower rate
abbrev slowed : List Call
slowed = offers 0 0 first_offer ∷ answers 0 first_answer ∷ offers 0 0 first_offer ∷ answers 0 slow ∷ []

-- "Each session then holds what demand 2 derives from its completed exchanges since its last close": here, its rates.
pub slowed_holds : (eqb (row_up (get_or (end usual (fresh_book 1) slowed) 0 fresh_row)) (row_up (row_of usual (past_of 0 (came usual 1 slowed)))) ≡ true)
    × (eqb (row_down (get_or (end usual (fresh_book 1) slowed) 0 fresh_row)) (row_down (row_of usual (past_of 0 (came usual 1 slowed)))) ≡ true)
unfolding computing
slowed_holds = (refl, refl)

-- "The signed changes reported add up to the booked totals, exactly."
pub evening_adds_up : ChangesAreBooked pooled 3 evening
unfolding computing
evening_adds_up = record { up = refl; down = refl }
