-- For the reader of `serial`: what is left of a log, and in what order, said a second way.
use Rattle.std.specs.Prelude.{ℕ, ◌≡◌, Bool, false, cond, not, ◌&&◌, ◌||◌, List, [], ◌∷◌, eqb}
use Rattle.book.specs.Model.{Call, offers, answers, cancels, closes, asks, states, session_of}
use Rattle.book.specs.Serial.{Entry, refused}

-- an offer, an answer, a cancellation, or any other call
abbrev pub offer_call : ℕ
offer_call = 0

abbrev pub answer_call : ℕ
answer_call = 1

abbrev pub cancel_call : ℕ
cancel_call = 2

abbrev pub other_call : ℕ
other_call = 3

abbrev pub call_kind : Call → ℕ
call_kind (offers session origin text) = offer_call
call_kind (answers session text) = answer_call
call_kind (cancels session) = cancel_call
call_kind (closes session) = other_call
call_kind (asks session bearer) = other_call
call_kind (states session room) = other_call

-- whether the first of the session's accepted offers, answers and cancellations to come is an answer
abbrev pub answered_next : ℕ → List Entry → Bool
answered_next session [] = false
answered_next session (e ∷ l) =
    cond (refused e.out || (eqb (call_kind e.call) other_call || not (eqb (session_of e.call) session))) (answered_next session l) (eqb (call_kind e.call) answer_call)

-- "Leave out the refused ones, the offers later cancelled with their cancellations, and the offers still open."
abbrev pub remaining : List Entry → List Entry
remaining [] = []
remaining (e ∷ l) =
    cond (refused e.out || (eqb (call_kind e.call) cancel_call || (eqb (call_kind e.call) offer_call && not (answered_next (session_of e.call) l)))) (remaining l)
    (e ∷ remaining l)

-- a session's offers, and all that is no offer, each in its order
abbrev pub offers_of : ℕ → List Entry → List Entry
offers_of session [] = []
offers_of session (e ∷ l) = cond (eqb (call_kind e.call) offer_call && eqb (session_of e.call) session) (e ∷ offers_of session l) (offers_of session l)

abbrev pub others : List Entry → List Entry
others [] = []
others (e ∷ l) = cond (eqb (call_kind e.call) offer_call) (others l) (e ∷ others l)

-- "each remaining offer .. just before its accepted answer": exchanges, and single calls that are neither offers nor answers
pub data Whole : List Entry → Type 0 where
  nothing : Whole []
  exchange : (offer answer : Entry) (l : List Entry) → call_kind offer.call ≡ offer_call → call_kind answer.call ≡ answer_call
      → session_of offer.call ≡ session_of answer.call → Whole l → Whole (offer ∷ answer ∷ l)
  single : (e : Entry) (l : List Entry) → call_kind e.call ≡ other_call → Whole l → Whole (e ∷ l)

-- nothing refused is left
abbrev pub AllAccepted : List Entry → Type 0
AllAccepted [] = Unit {0}
AllAccepted (e ∷ l) = (refused e.out ≡ false) × AllAccepted l

-- all is left that remains and no more; what is no offer keeps its order, and so do the offers of each session
pub record Orderly (log left : List Entry) : Type 0 where
  pub order : others left ≡ others (remaining log)
  pub offers : (session : ℕ) → offers_of session left ≡ offers_of session (remaining log)
  pub whole : Whole left
  pub accepted : AllAccepted left
