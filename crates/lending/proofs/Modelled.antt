-- The calls on lent rows keep their promise: they are those of the model. Assumes nothing.
use Prim.Native.Nat.{ℕ}
use mathlib.Core.Path.{◌≡◌, refl, ◌∙◌}
use mathlib.Core.Bool.{true, false, cond}
use mathlib.Core.List.{List}
use Rattle.std.specs.Prelude.{Result, Ok, Err}
use lib.Dec.{ltb, eqb, leb}
use lib.ListN.{length}
use lib.Seq.{set_out, set-get_or}
use borrow.Author.Tests.{ltb-false}
use Rattle.flow.proofs.Tests.{by_test}
use Rattle.flow.specs.declared.Asked.{Asked}
use Rattle.flow.specs.declared.Settings.{Settings}
use Rattle.statement.specs.Statement.{statement_of, written, after}
use Rattle.book.specs.declared.refusal.Refused.{Refused}
use Rattle.book.specs.declared.Reply.{Reply}
use Rattle.book.specs.declared.Row.{Row}
use Rattle.book.specs.declared.Seen.{Seen}
use Rattle.book.specs.declared.Stepped.{Stepped}
use Rattle.book.specs.Calls.{fresh_row, refused_with, barred, wrote, offer_step, answer_step, cancel_step, close_step, bearer_step, statement_step, statement_into, statement_bytes}
use Rattle.book.specs.Look.{nothing_seen}
use Rattle.book.specs.Model.{Call, offers, answers, cancels, closes, asks, states, session_of, look, step_out, row_call, call_of}
use Rattle.lent.specs.Lent.{over, gave, gave_into, Promised}
use Rattle.lending.specs.Looks.{row_at}
use Rattle.lending.specs.Steps.{found_at, stepped_at, Keeps}

-- A step on the row named is the call that it makes on a row. It is lent no buffer, and writes no byte.
module _ (settings : Settings) (rows : List Row) (call : Call) (step : Row → Seen → Stepped)
    (makes : (seen : Seen) (row : Row) → row_call settings seen row call ≡ step_out (step row seen)) where
  abbrev session : ℕ
  session = session_of call

  abbrev stepped : Stepped
  stepped = stepped_at step rows session

  step_meets : (r : Reply) (zs : List Row) → Keeps rows session stepped r zs → Promised settings rows call (gave r zs)
  unfolding call_of found_at
  step_meets r zs k =
      record {
        answer = k.0 ∙ by_test (ltb session (length rows)) (λ e. rw (e, makes (look nothing_seen rows) (row_at rows session))) (λ e. rw e);
        rows =
            k.1
            ∙ by_test (ltb session (length rows)) (λ e. rw (e, makes (look nothing_seen rows) (row_at rows session)))
            (λ e. rw e (set_out rows session fresh_row (ltb-false session (length rows) e)));
        buffer = by_test (ltb session (length rows)) (λ e. rw (e, makes (look nothing_seen rows) (row_at rows session))) (λ e. rw e);
      }

-- The four calls that may change their row.
abbrev offering : ℕ → List ℕ → Row → Seen → Stepped
offering origin text row seen = offer_step row seen origin text

abbrev answering : Settings → List ℕ → Row → Seen → Stepped
answering settings text row seen = answer_step row seen settings text

module _ (rows : List Row) (session : ℕ) (r : Reply) (zs : List Row) where
  abbrev Kept_by : (Row → Seen → Stepped) → Type 0
  Kept_by call = Keeps rows session (stepped_at call rows session) r zs

  pub offer_meets : (origin : ℕ) (text : List ℕ) → Kept_by (offering origin text) → (settings : Settings) → Promised settings rows (offers session origin text) (gave r zs)
  unfolding session_of row_call
  offer_meets origin text e settings = step_meets settings rows (offers session origin text) (offering origin text) (λ seen row. refl) r zs e

  pub answer_meets : (settings : Settings) (text : List ℕ) → Kept_by (answering settings text) → Promised settings rows (answers session text) (gave r zs)
  unfolding session_of row_call
  answer_meets settings text e = step_meets settings rows (answers session text) (answering settings text) (λ seen row. refl) r zs e

  pub cancel_meets : Kept_by cancel_step → (settings : Settings) → Promised settings rows (cancels session) (gave r zs)
  unfolding session_of row_call
  cancel_meets e settings = step_meets settings rows (cancels session) cancel_step (λ seen row. refl) r zs e

  pub close_meets : Kept_by close_step → (settings : Settings) → Promised settings rows (closes session) (gave r zs)
  unfolding session_of row_call
  close_meets e settings = step_meets settings rows (closes session) close_step (λ seen row. refl) r zs e

-- The two calls that read their row: on what was found, or the refusal.
abbrev pub read_on : (Row → Seen → Reply) → Result (Row × Seen) Refused → Reply
read_on call (Ok found) = call found.0 found.1
read_on call (Err e) = refused_with e.refusal e.place

module _ (rows : List Row) (session : ℕ) where
  pub bearer_meets : (asked : Asked) (r : Reply) → r ≡ read_on (λ row seen. bearer_step row seen asked) (found_at rows session)
      → (settings : Settings) → Promised settings rows (asks session asked) (gave r rows)
  unfolding session_of row_call found_at call_of
  bearer_meets asked r k settings =
      record {
        answer = k ∙ by_test (ltb session (length rows)) (λ e. rw e) (λ e. rw e);
        rows = by_test (ltb session (length rows)) (λ e. rw (e, set-get_or rows session fresh_row)) (λ e. rw e);
        buffer = by_test (ltb session (length rows)) (λ e. rw e) (λ e. rw e);
      }

-- An accepted statement is written over the buffer, and a refused one changes nothing.
module _ (row : Row) (seen : Seen) (l : List ℕ) where
  abbrev Over : Reply → Type 0
  Over r = cond (eqb r.refusal 0) (after row.held l) l ≡ over (statement_bytes row r) l

  over_written : Over (wrote (written row.held (length l)))
  unfolding statement_bytes after written
  over_written = by_test (leb (length (statement_of row.held)) (length l)) (λ e. rw e) (λ e. rw e)

  over_refused : (n : ℕ) → eqb n 0 ≡ false → Over (refused_with n 0)
  unfolding statement_bytes
  over_refused n e = rw e

  over_step : Over (statement_step row seen (length l))
  unfolding statement_step
  over_step =
      by_test (eqb (barred seen row true) 0)
      (λ b. by_test (eqb row.held.completed 0) (λ d. rw (b, d) (over_refused 13 refl)) (λ d. rw (b, d) over_written))
      (λ b. rw b (over_refused (barred seen row true) b))

  over_is : statement_into row seen l ≡ over (statement_bytes row (statement_step row seen (length l))) l
  unfolding statement_into
  over_is = over_step

module _ (rows : List Row) (session : ℕ) (l : List ℕ) where
  -- what the buffer holds after a statement on what was found
  abbrev pub into_on : Result (Row × Seen) Refused → List ℕ
  into_on (Ok found) = statement_into found.0 found.1 l
  into_on (Err e) = l

  pub statement_meets : (r : Reply) (zs : List ℕ) → r ≡ read_on (λ row seen. statement_step row seen (length l)) (found_at rows session) → zs ≡ into_on (found_at rows session)
      → (settings : Settings) → Promised settings rows (states session (length l)) (gave_into r rows l zs)
  unfolding session_of row_call found_at call_of
  statement_meets r zs k m settings =
      record {
        answer = k ∙ by_test (ltb session (length rows)) (λ e. rw e) (λ e. rw e);
        rows = by_test (ltb session (length rows)) (λ e. rw (e, set-get_or rows session fresh_row)) (λ e. rw e);
        buffer = m ∙ by_test (ltb session (length rows)) (λ e. rw e (over_is (row_at rows session) (look nothing_seen rows) l)) (λ e. rw e);
      }
