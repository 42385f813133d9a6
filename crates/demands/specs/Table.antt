-- "Refusal numbers": when each number of the book is given, and the order of each call. The calls themselves are defined in `book/specs/Calls.antt`,
-- by tests; here the table stands in its own words, and `first_given` says that the two are the same.
use Rattle.std.specs.Prelude.{ℕ, ◌≤◌, ◌<◌, ◌≡◌, ◌⊎◌, List, [], ◌∷◌, length, get_or, set}
use Rattle.sdp.specs.Text.{read_text}
use Rattle.flow.specs.declared.Asked.{Asked}
use Rattle.flow.specs.declared.Settings.{Settings}
use Rattle.flow.specs.Bearer.{count_of, SomePast, Within}
use Rattle.flow.specs.Fit.{said, Fits}
use Rattle.statement.specs.Statement.{statement_of}
use Rattle.book.specs.declared.Row.{Row}
use Rattle.book.specs.Calls.{most_rows, no_offer, fresh_row, derives}
use Rattle.book.specs.Model.{Call, offers, answers, cancels, closes, asks, states, session_of}
use Rattle.book.specs.Sound.{RowRange}
use Rattle.book.specs.Totals.{booked_up_all, booked_down_all}

-- a number of the table, and when it is given
pub record Refusal : Type 1 where
  pub number : ℕ
  pub when : Type 0

abbrev pub given : ℕ → Type 0 → Refusal
given number when = record { number = number; when = when }

-- what a call brings beside its session and its text, as 10 asks for it: "origin not 0 or 1; class not 2, 4, 6, 8, 9"
abbrev pub Brings : Call → Type 0
Brings (offers session origin text) = (origin ≡ 0) ⊎ (origin ≡ 1)
Brings (answers session text) = Unit {0}
Brings (cancels session) = Unit {0}
Brings (closes session) = Unit {0}
Brings (asks session bearer) =
    (bearer.class ≡ 2) ⊎ ((bearer.class ≡ 4) ⊎ ((bearer.class ≡ 6) ⊎ ((bearer.class ≡ 8) ⊎ (bearer.class ≡ 9))))
Brings (states session room) = Unit {0}

-- 10 is passed: none of what the table names for it holds ("component unknown" is of no call but the deciding line)
pub record NotTen (rows : List Row) (call : Call) : Type 0 where
  -- "session not below the rows lent"
  pub session : session_of call < length rows
  -- "rows not 1-16"
  pub lent : (1 ≤ length rows) × (length rows ≤ most_rows)
  -- "origin not 0 or 1; class not 2, 4, 6, 8, 9"
  pub brings : Brings call

abbrev pub given10 : List Row → Call → Refusal
given10 rows call = given 10 (NotTen rows call → ⊥)

-- "offer or close while an offer is open"
abbrev pub given11 : Row → Refusal
given11 row = given 11 (row.offer.present ≡ 0 → ⊥)

-- "answer or cancel with none open"
abbrev pub given12 : Row → Refusal
given12 row = given 12 (row.offer.present ≡ 0)

-- "close, bearer or statement, no completed exchange"
abbrev pub given13 : Row → Refusal
given13 row = given 13 (row.held.completed ≡ 0)

-- "offer with fewer `m=` lines than the last completed exchange"
abbrev pub given14 : Row → List ℕ → Refusal
given14 row text = given 14 ((read_text text).count < row.held.count)

-- "answer's count differs (place 0), or media kind or transport differs, or port not 0 where the offer's is 0": it does not fit (`Fits`, of which
-- `misfits_exactly` says the three causes in words)
abbrev pub given15 : Row → List ℕ → Refusal
given15 row text = given 15 (Fits row.offer.said (said (read_text text)) → ⊥)

-- the row with what an answer derives
abbrev pub answered : Settings → Row → List ℕ → Row
answered settings row text = record { held = derives settings row (read_text text); offer = no_offer }

-- "new booked total above the pool, up or down": the totals of the rows with that one changed
abbrev pub given16 : Settings → List Row → ℕ → Row → List ℕ → Refusal
given16 settings rows session row text =
    given 16
    ((settings.pool.up < booked_up_all (set rows session (answered settings row text)))
    ⊎ (settings.pool.down < booked_down_all (set rows session (answered settings row text))))

-- "bearer beyond the authorisation"
abbrev pub given17 : Row → Asked → Refusal
given17 row bearer = given 17 (Within row.held bearer → ⊥)

-- "bearer's component set is empty or names one past the count"
abbrev pub given18 : Row → Asked → Refusal
given18 row bearer = given 18 ((bearer.set ≡ 0) ⊎ SomePast bearer.set (count_of row.held))

-- "any lent row, named or not, holds a value outside its field's range"
pub record SomeOutside (rows : List Row) : Type 0 where
  pub at : ℕ
  pub lent : at < length rows
  pub outside : RowRange (get_or rows at fresh_row) → ⊥

abbrev pub given19 : List Row → Refusal
given19 rows = given 19 (SomeOutside rows)

-- "statement does not fit the buffer"
abbrev pub given20 : Row → ℕ → Refusal
given20 row room = given 20 (room < length (statement_of row.held))

-- 1 to 9: what the text itself is refused with
abbrev pub given_text : List ℕ → Refusal
given_text text = given (read_text text).refusal ((read_text text).refusal ≡ 0 → ⊥)

-- what follows 10 and 19, at the row that the call names: "Offer: 10, 19, 11, text, 14. Answer: 10, 19, 12, text, 15, 16. Cancel: 10, 19, 12.
-- Close: 10, 19, 11, 13. Bearer: 10, 19, 13, 18, 17. Statement: 10, 19, 13, 20."
abbrev pub then_of : Settings → List Row → Row → Call → List Refusal
then_of settings rows row (offers session origin text) = given11 row ∷ given_text text ∷ given14 row text ∷ []
then_of settings rows row (answers session text) = given12 row ∷ given_text text ∷ given15 row text ∷ given16 settings rows session row text ∷ []
then_of settings rows row (cancels session) = given12 row ∷ []
then_of settings rows row (closes session) = given11 row ∷ given13 row ∷ []
then_of settings rows row (asks session bearer) = given13 row ∷ given18 row bearer ∷ given17 row bearer ∷ []
then_of settings rows row (states session room) = given13 row ∷ given20 row room ∷ []

abbrev pub order_of : Settings → List Row → Call → List Refusal
order_of settings rows call = given10 rows call ∷ given19 rows ∷ then_of settings rows (get_or rows (session_of call) fresh_row) call

-- "the first fault in the stated order deciding": n is the number of the first of these that is given; 0 where none is
unfoldable pub First : List Refusal → ℕ → Type 0
First [] n = n ≡ 0
First (r ∷ rs) n = (r.when × (n ≡ r.number)) ⊎ ((r.when → ⊥) × First rs n)

-- rows as they are lent: each has eight slots for its components and eight for the media lines of its offer
pub record EightSlots (rows : List Row) : Type 0 where
  pub components : (i : ℕ) → i < length rows → length (get_or rows i fresh_row).held.components ≡ 8
  pub media : (i : ℕ) → i < length rows → length (get_or rows i fresh_row).offer.said.media ≡ 8
