-- The book: rows, the six calls on it, and lists of calls. This is what demands 1 and 3 speak of.
use Rattle.std.specs.Prelude.{ℕ, List, [], ◌∷◌, cond, length, get_or, set, ltb}
use Rattle.flow.specs.declared.Asked.{Asked}
use Rattle.flow.specs.declared.Settings.{Settings}
use Rattle.book.specs.declared.Reply.{Reply}
use Rattle.book.specs.declared.Row.{Row}
use Rattle.book.specs.declared.Seen.{Seen}
use Rattle.book.specs.declared.Stepped.{Stepped}
use Rattle.book.specs.Look.{nothing_seen, looked}
use Rattle.book.specs.Calls.{fresh_row, refused_with, offer_step, answer_step, cancel_step, close_step, bearer_step, statement_step, statement_bytes}

-- a call: the session, and what it brings; a statement brings the room in its buffer
pub data Call : Type 0 where
  offers : (session origin : ℕ) → (text : List ℕ) → Call
  answers : (session : ℕ) → (text : List ℕ) → Call
  cancels : (session : ℕ) → Call
  closes : (session : ℕ) → Call
  asks : (session : ℕ) → (bearer : Asked) → Call
  states : (session room : ℕ) → Call

unfoldable pub session_of : Call → ℕ
session_of (offers session origin text) = session
session_of (answers session text) = session
session_of (cancels session) = session
session_of (closes session) = session
session_of (asks session bearer) = session
session_of (states session room) = session

-- the answer, and the bytes that a statement wrote
pub record Out : Type 0 where
  pub reply : Reply
  pub bytes : List ℕ

-- a row and the answer after a call on it
pub record After : Type 0 where
  pub row : Row
  pub out : Out

-- a look at all rows
unfoldable pub look : Seen → List Row → Seen
look seen [] = seen
look seen (row ∷ rows) = look (looked seen row) rows

abbrev pub step_out : Stepped → After
step_out s = record { row = s.row; out = record { reply = s.reply; bytes = [] } }

-- a call on its row, by what the look saw
unfoldable pub row_call : Settings → Seen → Row → Call → After
row_call settings seen row (offers session origin text) = step_out (offer_step row seen origin text)
row_call settings seen row (answers session text) = step_out (answer_step row seen settings text)
row_call settings seen row (cancels session) = step_out (cancel_step row seen)
row_call settings seen row (closes session) = step_out (close_step row seen)
row_call settings seen row (asks session bearer) = record { row = row; out = record { reply = bearer_step row seen bearer; bytes = [] } }
row_call settings seen row (states session room) =
    record { row = row; out = record { reply = statement_step row seen room; bytes = statement_bytes row (statement_step row seen room) } }

-- a book and the answer after a call on it
pub record Called : Type 0 where
  pub rows : List Row
  pub out : Out

-- 10: "session not below the rows lent"
unfoldable pub call_of : Settings → List Row → Call → Called
call_of settings rows call =
    cond (ltb (session_of call) (length rows))
    (record {
      rows = set rows (session_of call) (row_call settings (look nothing_seen rows) (get_or rows (session_of call) fresh_row) call).row;
      out = (row_call settings (look nothing_seen rows) (get_or rows (session_of call) fresh_row) call).out;
    })
    (record { rows = rows; out = record { reply = refused_with 10 0; bytes = [] } })

-- calls one after the other: what each answered, and the book in the end
unfoldable pub log : Settings → List Row → List Call → List Out
log settings rows [] = []
log settings rows (call ∷ calls) = (call_of settings rows call).out ∷ log settings (call_of settings rows call).rows calls

unfoldable pub end : Settings → List Row → List Call → List Row
end settings rows [] = rows
end settings rows (call ∷ calls) = end settings (call_of settings rows call).rows calls
