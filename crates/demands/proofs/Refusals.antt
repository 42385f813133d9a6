-- Refusals (demand 1): of any rows, sound or not, any settings and any call. Assumes nothing.
use Prim.Native.Nat.{ℕ, ◌≤◌}
use native.Mathlib.Omega.{arith}
use native.Mathlib.Decide.{ℕ_discrete}
use mathlib.Core.Path.{◌≡◌, refl}
use mathlib.Core.List.{List, []}
use mathlib.Core.Bool.{Bool, true, cond, not, ◌||◌}
use lib.Dec.{ltb, leb, eqb}
use lib.ListN.{length, get_or, length-set}
use lib.Seq.{set-get_or, get_or-set_same, get_or-set_other}
use borrow.Author.Tests.{ltb-true, eqb-false, ne_eqb}
use Rattle.sdp.specs.Text.{read_text}
use Rattle.sdp.proofs.Said.{on_cond}
use Rattle.sdp.proofs.Ranges.{refused_text}
use Rattle.flow.specs.declared.Asked.{Asked}
use Rattle.flow.specs.declared.Authorised.{Authorised}
use Rattle.flow.specs.declared.Settings.{Settings}
use Rattle.flow.specs.declared.Fit.{Fit}
use Rattle.flow.specs.Bearer.{rest, count_of, accepted, authorised}
use Rattle.flow.specs.Fit.{said, fit_of}
use Rattle.flow.proofs.Tests.{by_test}
use Rattle.statement.specs.declared.Written.{Written}
use Rattle.statement.specs.Statement.{statement_of, written}
use Rattle.book.specs.declared.Reply.{Reply}
use Rattle.book.specs.declared.Row.{Row}
use Rattle.book.specs.declared.Seen.{Seen}
use Rattle.book.specs.declared.Stepped.{Stepped}
use Rattle.book.specs.Booking.{no_rates, rates_of, above}
use Rattle.book.specs.Calls.{fresh_row, no_change, refused_with, stays, barred, offer_said, offer_step, derives, answer_books, answer_said, answer_step, cancel_step, close_step, is_asked, grants, bearer_step, wrote, statement_step, statement_into, statement_bytes}
use Rattle.book.specs.Look.{nothing_seen}
use Rattle.sdp.specs.Range.{from1}
use Rattle.flow.specs.Range.{held_rates}
use Rattle.book.specs.Model.{Call, offers, answers, cancels, closes, asks, states, session_of, After, look, step_out, row_call, Called, call_of}

-- some row is out of its ranges: the look at all rows says so, or the row that the call names is
abbrev pub Unsound : Seen → Row → Type 0
Unsound seen row = (eqb seen.sound 0 || not (held_rates row.held)) ≡ true

-- an answer: its number is one of the table's or 0, and 19 only where a row is unsound; on a refusal the change is 0 and 0, class and rates
-- are zeros but for 17, and the length is 0 but for 20. Of its place: `Places`
pub record Answered (row : Row) (seen : Seen) (reply : Reply) : Type 0 where
  pub number : reply.refusal ≤ 20
  pub unsound : reply.refusal ≡ 19 → Unsound seen row
  pub change : (reply.refusal ≡ 0 → ⊥) → reply.change ≡ no_change
  pub granted : (reply.refusal ≡ 0 → ⊥) → (reply.refusal ≡ 17 → ⊥) → (reply.class ≡ 0) × (reply.granted ≡ no_rates)
  pub length : (reply.refusal ≡ 0 → ⊥) → (reply.refusal ≡ 20 → ⊥) → reply.length ≡ 0

-- a step on a row: its answer, and the row as it was on a refusal
pub record Refusing (row : Row) (seen : Seen) (step : Stepped) : Type 0 where
  pub answer : Answered row seen step.reply
  pub same : (step.reply.refusal ≡ 0 → ⊥) → step.row ≡ row

-- a call on its row: its answer, and on a refusal the row as it was and no byte written
pub record Calling (row : Row) (seen : Seen) (after : After) : Type 0 where
  pub answer : Answered row seen after.out.reply
  pub same : (after.out.reply.refusal ≡ 0 → ⊥) → after.row ≡ row
  pub bytes : (after.out.reply.refusal ≡ 0 → ⊥) → after.out.bytes ≡ []

module _ (row : Row) (seen : Seen) where
  -- What holds of a row, and of the row after an accepted step, holds of the row after the step.
  pub after_step : (P : Row → Type 0) (step : Stepped) → Refusing row seen step → P row → (step.reply.refusal ≡ 0 → P step.row) → P step.row
  after_step P step r h k = by (ℕ_discrete step.reply.refusal 0) where
    by : Dec (step.reply.refusal ≡ 0) → P step.row
    by (yes e) = k e
    by (no e) = rw (r.same e) h

  refused_with_lem : (number place : ℕ) → number ≤ 20 → (number ≡ 19 → Unsound seen row) → Answered row seen (refused_with number place)
  refused_with_lem number place h u = record { number = h; unsound = u; change = λ r. refl; granted = λ r s. (refl, refl); length = λ r s. refl }

  -- A refusal other than 19 and 20.
  below_19 : (number place : ℕ) → number ≤ 18 → Answered row seen (refused_with number place)
  below_19 number place h = refused_with_lem number place (omega arith) (λ e. absurd (omega (arith, e)))

  -- An answer that is no refusal.
  fine : (reply : Reply) → reply.refusal ≡ 0 → Answered row seen reply
  fine reply h =
      record {
        number = omega (arith, h);
        unsound = λ e. absurd (omega (arith, h, e));
        change = λ r. absurd (r h);
        granted = λ r s. absurd (r h);
        length = λ r s. absurd (r h);
      }

  done : (step : Stepped) → step.reply.refusal ≡ 0 → Refusing row seen step
  done step h = record { answer = fine step.reply h; same = λ r. absurd (r h) }

  kept : (number place : ℕ) → Answered row seen (refused_with number place) → Refusing row seen (stays row number place)
  kept number place a = record { answer = a; same = λ r. refl }

  -- 10 or 19, the latter where a row is unsound, or 0.
  barred_with : (well : Bool) → Answered row seen (refused_with (barred seen row well) 0)
  unfolding barred
  barred_with well =
      on_cond Bars (not (from1 16 seen.rows) || not well) (below_19 10 0 (omega arith))
      (by_test (eqb seen.sound 0 || not (held_rates row.held)) (λ t. rw t (refused_with_lem 19 0 (omega arith) (λ e. t)))
      (λ t. rw t (below_19 0 0 (omega arith)))) where
        Bars : ℕ → Type 0
        Bars n = Answered row seen (refused_with n 0)

  text_refused : (text : List ℕ) → ((read_text text).refusal ≡ 0 → ⊥) → Answered row seen (refused_with (read_text text).refusal (read_text text).place)
  text_refused text h = below_19 (read_text text).refusal (read_text text).place (omega (arith, (refused_text text h).number))

  -- 10 or 19, and the row stays.
  bars : (well : Bool) (next : Stepped) → Refusing row seen next
      → Refusing row seen (cond (not (eqb (barred seen row well) 0)) (stays row (barred seen row well) 0) next)
  bars well next h = on_cond (Refusing row seen) (not (eqb (barred seen row well) 0)) (kept (barred seen row well) 0 (barred_with well)) h

  -- The text's number and place, and the row stays.
  reads : (text : List ℕ) (next : Stepped) → Refusing row seen next
      → Refusing row seen (cond (not (eqb (read_text text).refusal 0)) (stays row (read_text text).refusal (read_text text).place) next)
  reads text next h =
      by_test (eqb (read_text text).refusal 0) (λ e. rw e h)
      (λ e. rw e (kept (read_text text).refusal (read_text text).place (text_refused text (eqb-false (read_text text).refusal 0 e))))

  -- A number of its own, and the row stays.
  stops : (test : Bool) (number : ℕ) (next : Stepped) → number ≤ 18 → Refusing row seen next → Refusing row seen (cond test (stays row number 0) next)
  stops test number next h k = on_cond (Refusing row seen) test (kept number 0 (below_19 number 0 h)) k

  -- "Offer: 10, 19, 11, text, 14."
  pub offer_step_lem : (origin : ℕ) (text : List ℕ) → Refusing row seen (offer_step row seen origin text)
  unfolding offer_step offer_said
  offer_step_lem origin text =
      bars (leb origin 1) _
      (stops (not (eqb row.offer.present 0)) 11 _ (omega arith)
      (reads text _
      (stops (ltb (read_text text).count row.held.count) 14 _ (omega arith) (done _ refl))))

  -- "Answer: 10, 19, 12, text, 15, 16."
  pub answer_step_lem : (settings : Settings) (text : List ℕ) → Refusing row seen (answer_step row seen settings text)
  unfolding answer_step answer_said answer_books
  answer_step_lem settings text =
      bars true _
      (stops (eqb row.offer.present 0) 12 _ (omega arith)
      (reads text _
      (on_cond (Refusing row seen) (not (eqb fit.refusal 0)) (kept 15 fit.place misfit)
      (stops (above settings.pool seen.booked (rates_of row.held) (rates_of (derives settings row (read_text text)))) 16 _ (omega arith)
      (done _ refl))))) where
        fit : Fit
        fit = fit_of row.offer.said (said (read_text text))

        misfit : Answered row seen (refused_with 15 fit.place)
        misfit = below_19 15 fit.place (omega arith)

  -- "Cancel: 10, 19, 12."
  pub cancel_step_lem : Refusing row seen (cancel_step row seen)
  unfolding cancel_step
  cancel_step_lem = bars true _ (stops (eqb row.offer.present 0) 12 _ (omega arith) (done _ refl))

  -- "Close: 10, 19, 11, 13."
  pub close_step_lem : Refusing row seen (close_step row seen)
  unfolding close_step
  close_step_lem =
      bars true _
      (stops (not (eqb row.offer.present 0)) 11 _ (omega arith)
      (stops (eqb row.held.completed 0) 13 _ (omega arith) (done _ refl)))

  -- 10, 19 or 13, and nothing more is answered.
  completes : (well : Bool) (next : Reply) → Answered row seen next
      → Answered row seen
      (cond (not (eqb (barred seen row well) 0)) (refused_with (barred seen row well) 0) (cond (eqb row.held.completed 0) (refused_with 13 0) next))
  completes well next h =
      on_cond (Answered row seen) (not (eqb (barred seen row well) 0)) (barred_with well)
      (on_cond (Answered row seen) (eqb row.held.completed 0) (below_19 13 0 (omega arith)) h)

  -- "Bearer: 10, 19, 13, 18, 17."
  bearer_step_lem : (asked : Asked) → Answered row seen (bearer_step row seen asked)
  unfolding bearer_step authorised
  bearer_step_lem asked =
      completes (is_asked asked.class) _
      (on_cond Granted (eqb asked.set 0 || not (eqb (rest asked.set (count_of row.held)) 0)) (below_19 18 0 (omega arith))
      (on_cond Granted (accepted row.held asked) (fine _ refl)
      (record {
        number = omega arith;
        unsound = λ e. absurd (omega (arith, e));
        change = λ r. refl;
        granted = λ r s. absurd (s refl);
        length = λ r s. refl;
      }))) where
        Granted : Authorised → Type 0
        Granted a = Answered row seen (grants a)

  -- "Statement: 10, 19, 13, 20."
  statement_step_lem : (room : ℕ) → Answered row seen (statement_step row seen room)
  unfolding statement_step written
  statement_step_lem room =
      completes true _
      (on_cond (λ (w : Written). Answered row seen (wrote w)) (leb (length (statement_of row.held)) room) (fine _ refl)
      (record {
        number = omega arith;
        unsound = λ e. absurd (omega (arith, e));
        change = λ r. refl;
        granted = λ r s. (refl, refl);
        length = λ r s. absurd (s refl);
      }))

  -- A refused statement changes no byte of the buffer.
  pub refused_buffer : (l : List ℕ) → ((statement_step row seen (length l)).refusal ≡ 0 → ⊥) → statement_into row seen l ≡ l
  unfolding statement_into
  refused_buffer l h = rw (ne_eqb (statement_step row seen (length l)).refusal 0 h)

  stepped : (step : Stepped) → Refusing row seen step → Calling row seen (step_out step)
  stepped step h = record { answer = h.answer; same = h.same; bytes = λ r. refl }

  -- So it is with every call on its row.
  pub row_call_lem : (settings : Settings) (call : Call) → Calling row seen (row_call settings seen row call)
  unfolding row_call statement_bytes
  row_call_lem settings (offers session origin text) = stepped _ (offer_step_lem origin text)
  row_call_lem settings (answers session text) = stepped _ (answer_step_lem settings text)
  row_call_lem settings (cancels session) = stepped _ cancel_step_lem
  row_call_lem settings (closes session) = stepped _ close_step_lem
  row_call_lem settings (asks session bearer) = record { answer = bearer_step_lem bearer; same = λ r. refl; bytes = λ r. refl }
  row_call_lem settings (states session room) =
      record { answer = statement_step_lem room; same = λ r. refl; bytes = λ r. rw (ne_eqb (statement_step row seen room).refusal 0 r) }

module _ (settings : Settings) (rows : List Row) (call : Call) where
  -- the row that the call names, after it
  abbrev step_at : After
  step_at = row_call settings (look nothing_seen rows) (get_or rows (session_of call) fresh_row) call

  called : Calling (get_or rows (session_of call) fresh_row) (look nothing_seen rows) step_at
  called = row_call_lem (get_or rows (session_of call) fresh_row) (look nothing_seen rows) settings call

  answered : Answered (get_or rows (session_of call) fresh_row) (look nothing_seen rows) (call_of settings rows call).out.reply
  unfolding call_of
  answered =
      on_cond (λ (c : Called). Answered (get_or rows (session_of call) fresh_row) (look nothing_seen rows) c.out.reply) (ltb (session_of call) (length rows))
      called.answer
      (below_19 (get_or rows (session_of call) fresh_row) (look nothing_seen rows) 10 0 (omega arith))

  -- A refused call leaves the whole book as it was.
  pub refused_stays : ((call_of settings rows call).out.reply.refusal ≡ 0 → ⊥) → (call_of settings rows call).rows ≡ rows
  unfolding call_of
  refused_stays =
      on_cond (λ (c : Called). (c.out.reply.refusal ≡ 0 → ⊥) → c.rows ≡ rows) (ltb (session_of call) (length rows))
      (λ h. rw (called.same h) (set-get_or rows (session_of call) fresh_row))
      (λ h. refl)

  -- A call that leaves its row leaves the whole book.
  pub row_stays : (row_call settings (look nothing_seen rows) (get_or rows (session_of call) fresh_row) call).row ≡ get_or rows (session_of call) fresh_row
      → (call_of settings rows call).rows ≡ rows
  unfolding call_of
  row_stays h =
      on_cond (λ (c : Called). c.rows ≡ rows) (ltb (session_of call) (length rows)) (rw h (set-get_or rows (session_of call) fresh_row)) refl

  -- A refused call writes no byte.
  pub refused_bytes : ((call_of settings rows call).out.reply.refusal ≡ 0 → ⊥) → (call_of settings rows call).out.bytes ≡ []
  unfolding call_of
  refused_bytes =
      on_cond (λ (c : Called). (c.out.reply.refusal ≡ 0 → ⊥) → c.out.bytes ≡ []) (ltb (session_of call) (length rows)) called.bytes (λ h. refl)

  -- Every call is answered with 0 or with a number of the table.
  pub number_known : (call_of settings rows call).out.reply.refusal ≤ 20
  number_known = answered.number

  -- 19 is answered only where a row is unsound.
  pub unsound_known : (call_of settings rows call).out.reply.refusal ≡ 19 → Unsound (look nothing_seen rows) (get_or rows (session_of call) fresh_row)
  unsound_known = answered.unsound

  -- A refused call reports the change 0 and 0.
  pub refused_change : ((call_of settings rows call).out.reply.refusal ≡ 0 → ⊥) → (call_of settings rows call).out.reply.change ≡ no_change
  refused_change = answered.change

  -- A refused call grants class 0 and no rates, but for 17.
  pub refused_grants : ((call_of settings rows call).out.reply.refusal ≡ 0 → ⊥) → ((call_of settings rows call).out.reply.refusal ≡ 17 → ⊥)
      → ((call_of settings rows call).out.reply.class ≡ 0) × ((call_of settings rows call).out.reply.granted ≡ no_rates)
  refused_grants = answered.granted

  -- A refused call reports the length 0, but for 20.
  pub refused_length : ((call_of settings rows call).out.reply.refusal ≡ 0 → ⊥) → ((call_of settings rows call).out.reply.refusal ≡ 20 → ⊥)
      → (call_of settings rows call).out.reply.length ≡ 0
  refused_length = answered.length

  -- A call at one session changes no other row.
  pub elsewhere : (j : ℕ) → (j ≡ session_of call → ⊥) → get_or (call_of settings rows call).rows j fresh_row ≡ get_or rows j fresh_row
  unfolding call_of
  elsewhere j h =
      on_cond (λ (c : Called). get_or c.rows j fresh_row ≡ get_or rows j fresh_row) (ltb (session_of call) (length rows))
      (get_or-set_other rows (session_of call) j step_at.row fresh_row h)
      refl

  -- The number of rows stays.
  pub rows_stay : length (call_of settings rows call).rows ≡ length rows
  unfolding call_of
  rows_stay =
      on_cond (λ (c : Called). length c.rows ≡ length rows) (ltb (session_of call) (length rows)) (length-set rows (session_of call) step_at.row) refl

  -- What holds of a row, and after the call of the row that it names, holds of the row after the call.
  pub row_after : (P : Row → Type 0) (j : ℕ) → P (get_or rows j fresh_row)
      → (j ≡ session_of call → P (row_call settings (look nothing_seen rows) (get_or rows j fresh_row) call).row) → P (get_or (call_of settings rows call).rows j fresh_row)
  unfolding call_of
  row_after P j h k = by (ℕ_discrete j (session_of call)) where
    Then : Called → Type 0
    Then c = P (get_or c.rows j fresh_row)

    by : Dec (j ≡ session_of call) → Then (call_of settings rows call)
    by (no e) = rw (elsewhere j e) h
    by (yes e) =
        by_test (ltb (session_of call) (length rows))
        (λ t. rw (t, e, get_or-set_same rows (session_of call) step_at.row fresh_row (ltb-true (session_of call) (length rows) t)) (rw e at (k e)))
        (λ t. rw t h)
