-- The place of every answer (demand 1): of any rows, sound or not, any settings and any call. Assumes nothing.
use Prim.Native.Nat.{ℕ, ◌≤◌}
use native.Mathlib.Omega.{arith}
use native.Mathlib.Decide.{ℕ_discrete}
use mathlib.Core.Path.{◌≡◌, refl}
use mathlib.Core.List.{List}
use mathlib.Core.Bool.{Bool, true, cond, not, ◌||◌}
use lib.Dec.{ltb, leb, eqb}
use lib.ListN.{length, get_or}
use borrow.Author.Tests.{eqb-false}
use Rattle.sdp.specs.Line.{lines_of}
use Rattle.sdp.specs.Range.{from1}
use Rattle.sdp.specs.Text.{read_text}
use Rattle.sdp.proofs.Said.{on_cond}
use Rattle.sdp.proofs.Ranges.{refused_text}
use Rattle.flow.specs.declared.Asked.{Asked}
use Rattle.flow.specs.declared.Authorised.{Authorised}
use Rattle.flow.specs.declared.Descriptions.{Descriptions}
use Rattle.flow.specs.declared.Fit.{Fit}
use Rattle.flow.specs.declared.Settings.{Settings}
use Rattle.flow.specs.Bearer.{rest, count_of, accepted, authorised}
use Rattle.flow.specs.Fit.{said, lowest, misfits_at, fit_at, fit_of}
use Rattle.flow.specs.Range.{held_rates}
use Rattle.flow.specs.Slots.{up_to_eight}
use Rattle.flow.proofs.Misfit.{misfit_first}
use Rattle.flow.proofs.Tests.{by_test}
use Rattle.statement.specs.declared.Written.{Written}
use Rattle.statement.specs.Statement.{statement_of, written}
use Rattle.book.specs.declared.Reply.{Reply}
use Rattle.book.specs.declared.Row.{Row}
use Rattle.book.specs.declared.Seen.{Seen}
use Rattle.book.specs.declared.Stepped.{Stepped}
use Rattle.book.specs.Booking.{rates_of, above}
use Rattle.book.specs.Calls.{fresh_row, refused_with, stays, barred, offer_said, offer_step, derives, answer_books, answer_said, answer_step, cancel_step, close_step, is_asked, grants, bearer_step, wrote, statement_step}
use Rattle.book.specs.Look.{nothing_seen}
use Rattle.book.specs.Model.{Call, offers, answers, cancels, closes, asks, states, session_of, look, row_call, Called, call_of}
use Rattle.demands.specs.Place.{text_lines, MisfitPlace, CallMisfits, PlaceKnown}

-- An answer that does not fit is refused with 15, and its place is that of 15.
fit_number : (offer answer : Descriptions) → ((fit_of offer answer).refusal ≡ 0 → ⊥) → (fit_of offer answer).refusal ≡ 15
unfolding fit_of fit_at
fit_number offer answer =
    on_cond Numbered (not (eqb offer.count answer.count)) (λ h. refl)
    (on_cond Numbered (eqb (lowest (misfits_at offer answer) (up_to_eight offer.count)) 0) (λ h. absurd (h refl)) (λ h. refl)) where
      Numbered : Fit → Type 0
      Numbered f = (f.refusal ≡ 0 → ⊥) → f.refusal ≡ 15

fit_place : (offer answer : Descriptions) → ((fit_of offer answer).refusal ≡ 0 → ⊥) → MisfitPlace offer answer (fit_of offer answer).place
fit_place offer answer h = misfit_first offer answer (fit_number offer answer h)

-- a number that has no place
abbrev Bare : ℕ → Type 0
Bare n = 2 ≤ n → (10 ≤ n) × (n ≡ 15 → ⊥)

module _ (row : Row) (seen : Seen) (lines : ℕ) (Misfits : ℕ → Type 0) where
  abbrev Known : Reply → Type 0
  Known = PlaceKnown lines Misfits

  abbrev Steps : Stepped → Type 0
  Steps step = Known step.reply

  -- An answer without a place, and with a number that has none.
  bare : (reply : Reply) → reply.place ≡ 0 → Bare reply.refusal → Known reply
  bare reply z b =
      record { line = λ h k. absurd (omega (arith, (b h).0, k)); component = λ e. absurd ((b (omega (arith, e))).1 e); none = λ t f. z }

  number : (n : ℕ) → Bare n → Known (refused_with n 0)
  number n b = bare (refused_with n 0) refl b

  barred_bare : (well : Bool) → Bare (barred seen row well)
  unfolding barred
  barred_bare well =
      on_cond Bare (not (from1 16 seen.rows) || not well) (λ h. omega arith)
      (on_cond Bare (eqb seen.sound 0 || not (held_rates row.held)) (λ h. omega arith) (λ h. omega (arith, h)))

  bars : (well : Bool) (next : Stepped) → Steps next → Steps (cond (not (eqb (barred seen row well) 0)) (stays row (barred seen row well) 0) next)
  bars well next h = on_cond Steps (not (eqb (barred seen row well) 0)) (number (barred seen row well) (barred_bare well)) h

  stops : (test : Bool) (n : ℕ) (next : Stepped) → Bare n → Steps next → Steps (cond test (stays row n 0) next)
  stops test n next b h = on_cond Steps test (number n b) h

  completes : (well : Bool) (next : Reply) → Known next
      → Known (cond (not (eqb (barred seen row well) 0)) (refused_with (barred seen row well) 0) (cond (eqb row.held.completed 0) (refused_with 13 0) next))
  completes well next h =
      on_cond Known (not (eqb (barred seen row well) 0)) (number (barred seen row well) (barred_bare well))
      (on_cond Known (eqb row.held.completed 0) (number 13 (λ k. omega arith)) h)

  cancel_place : Steps (cancel_step row seen)
  unfolding cancel_step
  cancel_place = bars true _ (stops (eqb row.offer.present 0) 12 _ (λ k. omega arith) (number 0 (λ k. omega (arith, k))))

  close_place : Steps (close_step row seen)
  unfolding close_step
  close_place =
      bars true _
      (stops (not (eqb row.offer.present 0)) 11 _ (λ k. omega arith)
      (stops (eqb row.held.completed 0) 13 _ (λ k. omega arith) (bare _ refl (λ k. omega (arith, k)))))

  bearer_place : (asked : Asked) → Known (bearer_step row seen asked)
  unfolding bearer_step authorised
  bearer_place asked =
      completes (is_asked asked.class) _
      (on_cond Granted (eqb asked.set 0 || not (eqb (rest asked.set (count_of row.held)) 0)) (bare _ refl (λ k. omega arith))
      (on_cond Granted (accepted row.held asked) (bare _ refl (λ k. omega (arith, k))) (bare _ refl (λ k. omega arith)))) where
        Granted : Authorised → Type 0
        Granted a = Known (grants a)

  statement_place : (room : ℕ) → Known (statement_step row seen room)
  unfolding statement_step written
  statement_place room =
      completes true _
      (on_cond (λ (w : Written). Known (wrote w)) (leb (length (statement_of row.held)) room) (bare _ refl (λ k. omega (arith, k)))
      (bare _ refl (λ k. omega arith)))

module _ (row : Row) (seen : Seen) (text : List ℕ) (Misfits : ℕ → Type 0) where
  abbrev Reads : Stepped → Type 0
  Reads = Steps row seen (lines_of text) Misfits

  -- A line of the text, or 0 where it is too long.
  text_place : ((read_text text).refusal ≡ 0 → ⊥) → PlaceKnown (lines_of text) Misfits (refused_with (read_text text).refusal (read_text text).place)
  text_place h =
      let k = refused_text text h in
      record {
        line = λ t u. k.line (λ e. omega (arith, e, t));
        component = λ e. absurd (omega (arith, e, k.number));
        none = λ t f. by t (ℕ_discrete (read_text text).refusal 1);
      } where
        by : ((2 ≤ (read_text text).refusal) × ((read_text text).refusal ≤ 9) → ⊥) → Dec ((read_text text).refusal ≡ 1) → (read_text text).place ≡ 0
        by t (yes e) = (refused_text text h).place e
        by t (no e) = absurd (t (omega (arith, (refused_text text h).number, e)))

  reads : (next : Stepped) → Reads next → Reads (cond (not (eqb (read_text text).refusal 0)) (stays row (read_text text).refusal (read_text text).place) next)
  reads next h = by_test (eqb (read_text text).refusal 0) (λ e. rw e h) (λ e. rw e (text_place (eqb-false (read_text text).refusal 0 e)))

  offer_place : (origin : ℕ) → Reads (offer_step row seen origin text)
  unfolding offer_step offer_said
  offer_place origin =
      bars row seen _ Misfits (leb origin 1) _
      (stops row seen _ Misfits (not (eqb row.offer.present 0)) 11 _ (λ k. omega arith)
      (reads _
      (stops row seen _ Misfits (ltb (read_text text).count row.held.count) 14 _ (λ k. omega arith) (number row seen _ Misfits 0 (λ k. omega (arith, k))))))

  answer_place : (settings : Settings) → ((place : ℕ) → MisfitPlace row.offer.said (said (read_text text)) place → Misfits place)
      → Reads (answer_step row seen settings text)
  unfolding answer_step answer_said answer_books
  answer_place settings is =
      let fit = fit_of row.offer.said (said (read_text text)) in
      let new = rates_of (derives settings row (read_text text)) in
      bars row seen _ Misfits true _
      (stops row seen _ Misfits (eqb row.offer.present 0) 12 _ (λ k. omega arith)
      (reads _
      (by_test (eqb fit.refusal 0)
      (λ e.
      rw e
      (stops row seen _ Misfits (above settings.pool seen.booked (rates_of row.held) new) 16 _ (λ k. omega arith)
      (bare row seen _ Misfits _ refl (λ k. omega (arith, k)))))
      (λ e.
      rw e
      (record {
        line = λ t u. absurd (omega (arith, u));
        component = λ t. is fit.place (fit_place row.offer.said (said (read_text text)) (eqb-false fit.refusal 0 e));
        none = λ t f. absurd (f refl);
      })))))

row_place : (settings : Settings) (seen : Seen) (row : Row) (call : Call)
    → PlaceKnown (text_lines call) (CallMisfits call row.offer.said) (row_call settings seen row call).out.reply
unfolding row_call
row_place settings seen row (offers session origin text) = offer_place row seen text (λ place. ⊥) origin
row_place settings seen row (answers session text) = answer_place row seen text (MisfitPlace row.offer.said (said (read_text text))) settings (λ place h. h)
row_place settings seen row (cancels session) = cancel_place row seen 0 (λ place. ⊥)
row_place settings seen row (closes session) = close_place row seen 0 (λ place. ⊥)
row_place settings seen row (asks session bearer) = bearer_place row seen 0 (λ place. ⊥) bearer
row_place settings seen row (states session room) = statement_place row seen 0 (λ place. ⊥) room

-- The place is 0 but for 2 to 9, where it is a line of the call's text, and for 15, where it is 0 if the counts differ and else the lowest component that
-- misfits.
pub place_known : (settings : Settings) (rows : List Row) (call : Call)
    → PlaceKnown (text_lines call) (CallMisfits call (get_or rows (session_of call) fresh_row).offer.said) (call_of settings rows call).out.reply
unfolding call_of
place_known settings rows call =
    let row = get_or rows (session_of call) fresh_row in
    on_cond (λ (c : Called). PlaceKnown (text_lines call) (CallMisfits call row.offer.said) c.out.reply) (ltb (session_of call) (length rows))
    (row_place settings (look nothing_seen rows) row call)
    (bare row (look nothing_seen rows) (text_lines call) (CallMisfits call row.offer.said) (refused_with 10 0) refl (λ k. omega arith))

-- Of an answer that is refused with 15 the count differs from the open offer's and the place is 0, or the place is the lowest component, from 1,
-- that misfits.
pub misfit_known : (settings : Settings) (rows : List Row) (session : ℕ) (text : List ℕ) → (call_of settings rows (answers session text)).out.reply.refusal ≡ 15
    → MisfitPlace (get_or rows session fresh_row).offer.said (said (read_text text)) (call_of settings rows (answers session text)).out.reply.place
unfolding session_of
misfit_known settings rows session text = (place_known settings rows (answers session text)).component
