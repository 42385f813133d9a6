-- What a host reads of a call that kept its promise is what the model gives out, bytes of a statement with it. Assumes nothing.
use Prim.Native.Nat.{ℕ}
use native.Mathlib.Omega.{arith}
use mathlib.Core.Path.{◌≡◌, refl, ap, sym, ◌∙◌}
use mathlib.Core.Bool.{true, cond, not}
use mathlib.Core.List.{List, []}
use lib.Dec.{ltb, leb, eqb}
use lib.ListN.{length, get_or, take, drop}
use lib.Seq.{take-append_seam}
use borrow.Author.Tests.{eqb-true, eqb-false}
use Rattle.sdp.specs.Text.{read_text}
use Rattle.sdp.proofs.Said.{on_cond}
use Rattle.flow.specs.declared.Asked.{Asked}
use Rattle.flow.specs.declared.Settings.{Settings}
use Rattle.flow.specs.Fit.{said, fit_of}
use Rattle.flow.proofs.Tests.{by_test}
use Rattle.statement.specs.declared.Written.{Written}
use Rattle.statement.specs.Statement.{statement_of, written}
use Rattle.book.specs.declared.Reply.{Reply}
use Rattle.book.specs.declared.Row.{Row}
use Rattle.book.specs.declared.Seen.{Seen}
use Rattle.book.specs.declared.Stepped.{Stepped}
use Rattle.book.specs.Booking.{rates_of, above}
use Rattle.book.specs.Calls.{fresh_row, barred, wrote, offer_said, offer_step, derives, answer_books, answer_said, answer_step, cancel_step, close_step, is_asked, bearer_step, statement_step, statement_bytes}
use Rattle.book.specs.Look.{nothing_seen}
use Rattle.book.specs.Model.{Call, offers, answers, cancels, closes, asks, states, session_of, Out, look, row_call, call_of}
use Rattle.demands.proofs.Refusals.{refused_bytes}
use Rattle.lent.specs.Lent.{over, Made, Promised}
use Rattle.lent.specs.Played.{told}

-- A step and a bearer say the length 0.
module _ (row : Row) (seen : Seen) where
  abbrev None : Reply → Type 0
  None reply = reply.length ≡ 0

  abbrev Nothing : Stepped → Type 0
  Nothing step = step.reply.length ≡ 0

  offer_nothing : (origin : ℕ) (text : List ℕ) → Nothing (offer_step row seen origin text)
  unfolding offer_step offer_said
  offer_nothing origin text =
      on_cond Nothing (not (eqb (barred seen row (leb origin 1)) 0)) refl
      (on_cond Nothing (not (eqb row.offer.present 0)) refl
      (on_cond Nothing (not (eqb (read_text text).refusal 0)) refl
      (on_cond Nothing (ltb (read_text text).count row.held.count) refl refl)))

  answer_nothing : (settings : Settings) (text : List ℕ) → Nothing (answer_step row seen settings text)
  unfolding answer_step answer_said answer_books
  answer_nothing settings text =
      on_cond Nothing (not (eqb (barred seen row true) 0)) refl
      (on_cond Nothing (eqb row.offer.present 0) refl
      (on_cond Nothing (not (eqb (read_text text).refusal 0)) refl
      (on_cond Nothing (not (eqb (fit_of row.offer.said (said (read_text text))).refusal 0)) refl
      (on_cond Nothing (above settings.pool seen.booked (rates_of row.held) (rates_of (derives settings row (read_text text)))) refl refl))))

  cancel_nothing : Nothing (cancel_step row seen)
  unfolding cancel_step
  cancel_nothing = on_cond Nothing (not (eqb (barred seen row true) 0)) refl (on_cond Nothing (eqb row.offer.present 0) refl refl)

  close_nothing : Nothing (close_step row seen)
  unfolding close_step
  close_nothing =
      on_cond Nothing (not (eqb (barred seen row true) 0)) refl
      (on_cond Nothing (not (eqb row.offer.present 0)) refl
      (on_cond Nothing (eqb row.held.completed 0) refl refl))

  bearer_nothing : (asked : Asked) → None (bearer_step row seen asked)
  unfolding bearer_step
  bearer_nothing asked =
      on_cond None (not (eqb (barred seen row (is_asked asked.class)) 0)) refl (on_cond None (eqb row.held.completed 0) refl refl)

  -- An accepted statement says its own length.
  abbrev Whole : Reply → Type 0
  Whole reply = reply.refusal ≡ 0 → reply.length ≡ length (statement_of row.held)

  statement_whole : (room : ℕ) → Whole (statement_step row seen room)
  unfolding statement_step written
  statement_whole room =
      by_test (eqb (barred seen row true) 0)
      (λ b. rw b (on_cond Whole (eqb row.held.completed 0) (λ z. absurd (omega (arith, z)))
      (on_cond (λ (w : Written). Whole (wrote w)) (leb (length (statement_of row.held)) room) (λ z. refl) (λ z. refl))))
      (λ b. rw b (λ z. absurd (eqb-false (barred seen row true) 0 b z)))

  -- So an accepted call says how many bytes it wrote.
  abbrev Measured : Out → Type 0
  Measured out = out.reply.refusal ≡ 0 → out.reply.length ≡ length out.bytes

  row_measured : (settings : Settings) (call : Call) → Measured (row_call settings seen row call).out
  unfolding row_call statement_bytes
  row_measured settings (offers session origin text) h = offer_nothing origin text
  row_measured settings (answers session text) h = answer_nothing settings text
  row_measured settings (cancels session) h = cancel_nothing
  row_measured settings (closes session) h = close_nothing
  row_measured settings (asks session asked) h = bearer_nothing asked
  row_measured settings (states session room) h = rw h (statement_whole room h)

module _ (settings : Settings) (rows : List Row) (call : Call) where
  abbrev out : Out
  out = (call_of settings rows call).out

  measured : (call_of settings rows call).out.reply.refusal ≡ 0 → (call_of settings rows call).out.reply.length ≡ length (call_of settings rows call).out.bytes
  unfolding call_of
  measured =
      by_test (ltb (session_of call) (length rows))
      (λ e. rw e (row_measured (get_or rows (session_of call) fresh_row) (look nothing_seen rows) settings call))
      (λ e. rw e (λ h. refl))

  -- The first bytes of the buffer at exit, so many as the answer says, are those that the model gives out.
  read_back : (l : List ℕ) → cond (eqb out.reply.refusal 0) (take out.reply.length (over out.bytes l)) [] ≡ out.bytes
  read_back l =
      by_test (eqb out.reply.refusal 0)
      (λ e. rw (e, measured (eqb-true out.reply.refusal 0 e)) (take-append_seam out.bytes (drop (length out.bytes) l)))
      (λ e. rw e (sym (refused_bytes settings rows call (eqb-false out.reply.refusal 0 e))))

  pub told_is : (made : Made) → Promised settings rows call made → told made ≡ out
  told_is made p = rw (p.answer, p.buffer) (ap (λ l. record { reply = out.reply; bytes = l }) (read_back made.lent))

  -- One promise, one result: of two calls that are lent the same buffer, both give the same.
  pub promised_one : (m n : Made) → m.lent ≡ n.lent → Promised settings rows call m → Promised settings rows call n → m ≡ n
  promised_one m n l p q =
      ap (λ r. record { reply = r; rows = m.rows; lent = m.lent; buffer = m.buffer }) (p.answer ∙ sym q.answer)
      ∙ ap (λ r. record { reply = n.reply; rows = r; lent = m.lent; buffer = m.buffer }) (p.rows ∙ sym q.rows)
      ∙ ap (λ r. record { reply = n.reply; rows = n.rows; lent = r; buffer = m.buffer }) l
      ∙ ap (λ r. record { reply = n.reply; rows = n.rows; lent = n.lent; buffer = r }) (p.buffer ∙ ap (over out.bytes) l ∙ sym q.buffer)
