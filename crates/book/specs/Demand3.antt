-- Demand 3: what is promised of any calls on a fresh book.
use Rattle.std.specs.Prelude.{ℕ, ◌<◌, ◌≡◌, Bool, true, false, not, ◌||◌, List, [], ◌∷◌, ◌++◌, map, eqb, ℤ, pos, ◌+ℤ◌, get_or, replicate}
use Rattle.std.proofs.Math.Option.{Option, none, some}
use Rattle.sdp.specs.Text.{read_text}
use Rattle.flow.specs.declared.Held.{Held}
use Rattle.flow.specs.declared.Settings.{Settings}
use Rattle.flow.specs.Before.{before_of}
use Rattle.flow.specs.Derive.{derived}
use Rattle.flow.specs.Session.{fresh_held}
use Rattle.flow.specs.Fit.{said}
use Rattle.book.specs.declared.Offer.{Offer}
use Rattle.book.specs.declared.Row.{Row}
use Rattle.book.specs.Calls.{no_offer, fresh_row, settled}
use Rattle.book.specs.Model.{Call, offers, answers, cancels, closes, asks, states, session_of, Out, log, end}
use Rattle.book.specs.Serial.{Entry, logged, calls_of, refused, serial}
use Rattle.book.specs.Totals.{booked_up_all, booked_down_all}

-- "Start from a fresh book, with the same settings and the same rows lent at every call and the book touched by nothing else."
abbrev pub fresh_book : ℕ → List Row
fresh_book n = replicate n fresh_row

-- "Take any calls that came. Leave out .. Move .."
abbrev pub came : Settings → ℕ → List Call → List Entry
came settings n calls = logged settings (fresh_book n) calls

abbrev pub left : Settings → ℕ → List Call → List Entry
left settings n calls = serial (came settings n calls)

pub record PlaysSerially (settings : Settings) (n : ℕ) (calls : List Call) : Type 0 where
  -- "Played that way, every call left gives the answer it gave,"
  pub answers : came settings n (calls_of (left settings n calls)) ≡ left settings n calls
  -- "and the book ends the same but for the open offers."
  pub book : end settings (fresh_book n) (calls_of (left settings n calls)) ≡ map settled (end settings (fresh_book n) calls)

-- who offered, and the text; an exchange is an offer and the text of its accepted answer
pub record Offered : Type 0 where
  pub origin : ℕ
  pub text : List ℕ

pub record Exchange : Type 0 where
  pub offered : Offered
  pub answer : List ℕ

-- "its completed exchanges since its last close", oldest first, and its open offer
pub record Past : Type 0 where
  pub exchanges : List Exchange
  pub offered : Option Offered

abbrev pub no_past : Past
no_past = record { exchanges = []; offered = none }

abbrev pub completing : List Exchange → Option Offered → List ℕ → List Exchange
completing l none answer = l
completing l (some offered) answer = l ++ (record { offered = offered; answer = answer } ∷ [])

-- with one call more; `true` where it is another session's or was refused
abbrev pub learning : Bool → Call → Past → Past
learning true call past = past
learning false (offers session origin text) past = record { exchanges = past.exchanges; offered = some (record { origin = origin; text = text }) }
learning false (answers session text) past = record { exchanges = completing past.exchanges past.offered text; offered = none }
learning false (cancels session) past = record { exchanges = past.exchanges; offered = none }
learning false (closes session) past = no_past
learning false (asks session bearer) past = past
learning false (states session room) past = past

unfoldable pub past_from : ℕ → Past → List Entry → Past
past_from session past [] = past
past_from session past (e ∷ l) =
    past_from session (learning (not (eqb (session_of e.call) session) || refused e.out) e.call past) l

abbrev pub past_of : ℕ → List Entry → Past
past_of session = past_from session no_past

-- "what demand 2 derives", from one exchange after the other
abbrev pub exchanged : Settings → Held → Exchange → Held
exchanged settings held x = derived settings x.offered.origin (before_of held) (said (read_text x.offered.text)) (said (read_text x.answer))

unfoldable pub derived_from : Settings → Held → List Exchange → Held
derived_from settings held [] = held
derived_from settings held (x ∷ l) = derived_from settings (exchanged settings held x) l

abbrev pub open_offer : Option Offered → Offer
open_offer none = no_offer
open_offer (some offered) = record { present = 1; origin = offered.origin; said = said (read_text offered.text) }

abbrev pub row_of : Settings → Past → Row
row_of settings past = record { held = derived_from settings fresh_held past.exchanges; offer = open_offer past.offered }

-- "Each session then holds what demand 2 derives from its completed exchanges since its last close."
pub record HoldsExchanges (settings : Settings) (n : ℕ) (calls : List Call) (session : ℕ) : Type 0 where
  -- after the calls as they came, its open offer with it
  pub as_came : get_or (end settings (fresh_book n) calls) session fresh_row ≡ row_of settings (past_of session (came settings n calls))
  -- after the calls left
  pub as_left : get_or (end settings (fresh_book n) (calls_of (left settings n calls))) session fresh_row
      ≡ settled (row_of settings (past_of session (came settings n calls)))

-- "The signed changes reported"
abbrev pub change_up : Out → ℤ
change_up out = out.reply.change.up

abbrev pub change_down : Out → ℤ
change_down out = out.reply.change.down

unfoldable pub sum_of_changes : (Out → ℤ) → List Out → ℤ
sum_of_changes change [] = pos 0
sum_of_changes change (out ∷ outs) = change out +ℤ sum_of_changes change outs

-- "add up to the booked totals, exactly."
pub record ChangesAreBooked (settings : Settings) (n : ℕ) (calls : List Call) : Type 0 where
  pub up : sum_of_changes change_up (log settings (fresh_book n) calls) ≡ pos (booked_up_all (end settings (fresh_book n) calls))
  pub down : sum_of_changes change_down (log settings (fresh_book n) calls) ≡ pos (booked_down_all (end settings (fresh_book n) calls))

pub record Demand3 (settings : Settings) (n : ℕ) (calls : List Call) : Type 0 where
  pub serially : PlaysSerially settings n calls
  pub holds : (session : ℕ) → session < n → HoldsExchanges settings n calls session
  pub changes : ChangesAreBooked settings n calls
