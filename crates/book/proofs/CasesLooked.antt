-- A look at all rows, and 10 and 19 by what it saw, by computation. Assumes nothing.
use Prim.Native.Nat.{ℕ, ◌-◌}
use mathlib.Core.Path.{◌≡◌, refl}
use mathlib.Core.Bool.{true, false}
use mathlib.Core.List.{List, [], ◌∷◌, ◌++◌, map}
use lib.ListN.{length, replicate}
use Rattle.flow.specs.Session.{rate, no_way}
use Rattle.book.specs.declared.Row.{Row}
use Rattle.book.specs.declared.Seen.{Seen}
use Rattle.book.specs.Look.{nothing_seen, wrapped, added, looked}
use Rattle.book.specs.Calls.{fresh_row, barred, is_asked}
use Rattle.book.specs.Cases.{usual}
use Rattle.book.specs.CasesRows.{way, component, holding, one_component, first_held, slow_held, large_held, held, nothing_held, opened_again, unsound}
use Rattle.book.specs.Evening.{first_offer, first_answer}
use Rattle.book.specs.Model.{Call, look, offers, answers, cancels, closes, asks, states, call_of}
use Rattle.book.proofs.Computing.{computing}

abbrev seen : (rows sound up down : ℕ) → Seen
seen rows sound up down = record { rows = rows; sound = sound; booked = record { up = rate up; down = rate down } }

-- A fresh row is all zeros: "A fresh row has none of these, and class 0."
pub fresh_zeros : (fresh_row ≡ nothing_held) × (length fresh_row.held.components ≡ 8) × (length fresh_row.offer.said.media ≡ 8)
fresh_zeros = (refl, refl, refl)

-- How many rows, whether all are sound, and the booked totals; an unsound row is not booked.
pub looks : (look nothing_seen [] ≡ seen 0 1 0 0)
    × (look nothing_seen (held first_held ∷ held slow_held ∷ []) ≡ seen 2 1 126000 134400)
    × (look nothing_seen (held first_held ∷ held (holding 2 2 1 first_held.components) ∷ nothing_held ∷ []) ≡ seen 3 0 105000 67200)
    -- an open offer books nothing, and what is held below it is booked; sixteen rows; more than 32 bits hold
    × (look nothing_seen (opened_again ∷ held first_held ∷ []) ≡ seen 2 1 210000 134400)
    × (look nothing_seen (replicate 16 (held first_held)) ≡ seen 16 1 1680000 1075200)
    × (look nothing_seen (held large_held ∷ held large_held ∷ []) ≡ seen 2 1 17179869180 0)
unfolding computing
looks = (refl, refl, refl, refl, refl, refl)

-- More than sixteen rows are seventeen.
pub looks_many : (looked (seen 15 1 0 0) fresh_row ≡ seen 16 1 0 0) × (looked (seen 16 1 0 0) fresh_row ≡ seen 17 1 0 0) × (looked (seen 17 1 0 0) fresh_row ≡ seen 17 1 0 0)
unfolding computing
looks_many = (refl, refl, refl)

-- A total has 64 bits.
pub wraps : (wrapped 18446744073709551615 ≡ 18446744073709551615) × (wrapped 18446744073709551616 ≡ 0) × (wrapped 18446744073709551617 ≡ 1)
unfolding computing
wraps = (refl, refl, refl)

pub adds : added (record { up = rate 3; down = rate 50 }) (record { up = rate 10; down = rate 700 }) ≡ record { up = rate 13; down = rate 750 }
unfolding computing
adds = refl

-- 10: "session not below the rows lent; rows not 1-16", and before 19.
abbrev cancelled : List Row → ℕ
cancelled rows = (call_of usual rows (cancels 0)).out.reply.refusal

pub rows_number : map cancelled ([] ∷ replicate 1 fresh_row ∷ replicate 16 fresh_row ∷ replicate 17 fresh_row ∷ []) ≡ 10 ∷ 12 ∷ 12 ∷ 10 ∷ []
unfolding computing
rows_number = refl

-- .. for each of the six calls
abbrev six : List Call
six =
    offers 0 0 first_offer
    ∷ answers 0 first_answer
    ∷ cancels 0
    ∷ closes 0
    ∷ asks 0 (record { set = 1; class = 2; up = 0; down = 0 })
    ∷ states 0 100
    ∷ []

abbrev each_of_six : ℕ → List ℕ
each_of_six n = map (λ (c : Call). (call_of usual (replicate n fresh_row) c).out.reply.refusal) six

pub rows_number_each : map each_of_six (0 ∷ 16 ∷ 17 ∷ []) ≡ replicate 6 10 ∷ (0 ∷ 12 ∷ 12 ∷ 13 ∷ 13 ∷ 13 ∷ []) ∷ replicate 6 10 ∷ []
unfolding computing
rows_number_each = refl

pub rows_number_first : map cancelled ((replicate 15 fresh_row ++ (unsound ∷ [])) ∷ (replicate 16 fresh_row ++ (unsound ∷ [])) ∷ []) ≡ 19 ∷ 10 ∷ []
unfolding computing
rows_number_first = refl

pub last_session : map (λ (n : ℕ). (call_of usual (replicate 16 fresh_row) (cancels n)).out.reply.refusal) (15 ∷ 16 ∷ []) ≡ 12 ∷ 10 ∷ []
unfolding computing
last_session = refl

-- 19 of "any lent row, named or not": wherever the bad one stands among sixteen, and whichever is named
abbrev among : ℕ → ℕ → ℕ
among bad named = (call_of usual (replicate bad fresh_row ++ (unsound ∷ replicate (15 - bad) fresh_row)) (cancels named)).out.reply.refusal

pub anywhere_19 : map (λ bad. map (among bad) (0 ∷ 7 ∷ 15 ∷ [])) (0 ∷ 7 ∷ 15 ∷ []) ≡ replicate 3 (replicate 3 19)
unfolding computing
anywhere_19 = refl

-- "rows not 1-16; origin not 0 or 1; class not 2, 4, 6, 8, 9", then 19: by the look, and by the rates of the row itself
abbrev past : Row
past = held (holding 1 0 0 (one_component (component 0 0 0 0 (way 8589934591 0 0 0 0) no_way)))

pub bars : (map (λ (n : ℕ). barred (seen n 1 0 0) fresh_row true) (0 ∷ 1 ∷ 16 ∷ 17 ∷ []) ≡ 10 ∷ 0 ∷ 0 ∷ 10 ∷ [])
    × (map (λ (n : ℕ). barred (seen n 0 0 0) fresh_row true) (0 ∷ 1 ∷ 16 ∷ 17 ∷ []) ≡ 10 ∷ 19 ∷ 19 ∷ 10 ∷ [])
    × (barred (seen 1 0 0 0) fresh_row false ≡ 10)
    × (barred (seen 1 1 0 0) past true ≡ 19)
unfolding computing
bars = (refl, refl, refl, refl)

-- "class not 2, 4, 6, 8, 9"
pub classes_asked : map is_asked (0 ∷ 1 ∷ 2 ∷ 3 ∷ 4 ∷ 5 ∷ 6 ∷ 7 ∷ 8 ∷ 9 ∷ 10 ∷ [])
    ≡ false ∷ false ∷ true ∷ false ∷ true ∷ false ∷ true ∷ false ∷ true ∷ true ∷ false ∷ []
unfolding computing
classes_asked = refl
