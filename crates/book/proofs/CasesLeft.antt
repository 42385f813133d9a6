-- Demand 3 of two evenings, by computation and by no law: what is left, the pasts and the sums. Assumes nothing.
use Prim.Native.Nat.{ℕ}
use mathlib.Core.Path.{◌≡◌, refl}
use mathlib.Core.List.{List, [], ◌∷◌, map}
use mathlib.Core.Option.{none}
use lib.IntN.{pos}
use Rattle.book.specs.Cases.{usual}
use Rattle.book.specs.CasesLeft.{evening_outs, evening_rows, evening_log, serially_outs, remaining_calls, other_calls, pasts, night_rows, night_log, night_serially_outs, night_pasts, mute, exchange}
use Rattle.book.specs.CasesReplied.{only, bare, hold_offer, hold_answer}
use Rattle.book.specs.CasesRows.{handset_hold_held, held}
use Rattle.book.specs.Demand3.{came, left, past_of, row_of, change_up, change_down, sum_of_changes}
use Rattle.book.specs.Evening.{pooled, serially, night_serially, first_offer, first_answer, gone}
use Rattle.book.specs.Left.{call_kind, remaining, offers_of, others}
use Rattle.book.specs.Model.{Call, offers, answers, cancels, closes, asks, states}
use Rattle.book.specs.Serial.{Entry, paired, calls_of, serial}
use Rattle.book.specs.Totals.{booked_up_all, booked_down_all}
use Rattle.book.proofs.Computing.{computing}

-- "Leave out .. Move each remaining offer to just before its accepted answer.": what is left of the evening, in the order of play.
pub evening_left : serial evening_log ≡ paired serially serially_outs
unfolding computing
evening_left = refl

-- The same for the reader: what remains, its offers session by session, and all that is no offer.
pub kinds : map call_kind (offers 5 1 [] ∷ answers 5 [] ∷ cancels 5 ∷ closes 5 ∷ asks 5 (record { set = 1; class = 2; up = 0; down = 0 }) ∷ states 5 9 ∷ [])
    ≡ 0 ∷ 1 ∷ 2 ∷ 3 ∷ 3 ∷ 3 ∷ []
kinds = refl

pub evening_remaining : calls_of (remaining evening_log) ≡ remaining_calls
unfolding computing
evening_remaining = refl

pub evening_others : calls_of (others (remaining evening_log)) ≡ other_calls
unfolding computing
evening_others = refl

pub evening_offers : map (λ (session : ℕ). calls_of (offers_of session (remaining evening_log))) (0 ∷ 1 ∷ 2 ∷ 3 ∷ [])
    ≡ (offers 0 0 first_offer ∷ offers 0 1 gone ∷ []) ∷ (offers 1 1 first_offer ∷ []) ∷ (offers 2 0 first_offer ∷ []) ∷ [] ∷ []
unfolding computing
evening_offers = refl

-- "its completed exchanges since its last close"
pub evening_pasts : map (λ (session : ℕ). past_of session evening_log) (0 ∷ 1 ∷ 2 ∷ []) ≡ pasts
unfolding computing
evening_pasts = refl

-- "Each session then holds what demand 2 derives from" them.
pub evening_holds : map (row_of pooled) pasts ≡ evening_rows
unfolding computing
evening_holds = refl

-- The same of the other evening.
pub night_left : serial night_log ≡ paired night_serially night_serially_outs
unfolding computing
night_left = refl

pub night_remaining : calls_of (others (remaining night_log)) ≡ calls_of (others (paired night_serially night_serially_outs))
unfolding computing
night_remaining = refl

pub night_pasts_lem : map (λ (session : ℕ). past_of session night_log) (0 ∷ 1 ∷ 2 ∷ []) ≡ night_pasts
unfolding computing
night_pasts_lem = refl

pub night_holds : map (row_of usual) night_pasts ≡ night_rows
unfolding computing
night_holds = refl

pub night_offers : map (λ (session : ℕ). calls_of (offers_of session (remaining night_log))) (0 ∷ 1 ∷ 2 ∷ [])
    ≡ (offers 0 1 first_offer ∷ []) ∷ (offers 1 0 first_offer ∷ offers 1 1 first_offer ∷ []) ∷ (offers 2 0 first_offer ∷ []) ∷ []
unfolding computing
night_offers = refl

-- From two exchanges, First and its hold: the second by what the first left (NOTE 3).
pub two_held_lem : row_of usual (record { exchanges = exchange 0 first_offer first_answer ∷ exchange 0 hold_offer hold_answer ∷ []; offered = none }) ≡ held handset_hold_held
unfolding computing
two_held_lem = refl

-- An answer that is refused answers nothing: the offer that is then cancelled is left out. A bearer or a statement while an offer waits stays before it.
abbrev told : List Call → List ℕ → List Entry
told calls numbers = paired calls (map (λ n. mute (only n 0)) numbers)

abbrev bearing : Call
bearing = asks 0 (record { set = 1; class = 2; up = 0; down = 0 })

abbrev cancelled : List Entry
cancelled = told (offers 0 0 bare ∷ answers 0 bare ∷ cancels 0 ∷ []) (0 ∷ 15 ∷ 0 ∷ [])

abbrev read : List Entry
read = told (offers 0 0 bare ∷ bearing ∷ states 0 9 ∷ answers 0 bare ∷ []) (0 ∷ 0 ∷ 0 ∷ 0 ∷ [])

pub left_behind : (serial cancelled ≡ []) × (remaining cancelled ≡ []) × (calls_of (serial read) ≡ bearing ∷ states 0 9 ∷ offers 0 0 bare ∷ answers 0 bare ∷ [])
unfolding computing
left_behind = (refl, refl, refl)

-- Of calls on a fresh book: an offer that is cancelled, and one that is answered behind it.
pub left_of_few :
    (came usual 1 (offers 0 0 bare ∷ cancels 0 ∷ []) ≡ record { call = offers 0 0 bare; out = mute (only 0 0) } ∷ record { call = cancels 0; out = mute (only 0 0) } ∷ [])
    × (left usual 1 (offers 0 0 bare ∷ cancels 0 ∷ []) ≡ [])
    × (calls_of (left usual 1 (offers 0 0 bare ∷ cancels 0 ∷ offers 0 1 bare ∷ answers 0 bare ∷ [])) ≡ offers 0 1 bare ∷ answers 0 bare ∷ [])
unfolding computing
left_of_few = (refl, refl, refl)

-- "The signed changes reported add up to the booked totals, exactly.": 105,000 + 67,200 + 21,000 - 105,000 - 67,200 up.
pub evening_sums : (sum_of_changes change_up evening_outs ≡ pos 21000) × (sum_of_changes change_down evening_outs ≡ pos 67200)
    × (booked_up_all evening_rows ≡ 21000) × (booked_down_all evening_rows ≡ 67200)
unfolding computing
evening_sums = (refl, refl, refl, refl)
