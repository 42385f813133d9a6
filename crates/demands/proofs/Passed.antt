-- Accepted calls: what an accepted offer, answer, cancel or close passed on the way, and what it leaves. Assumes nothing.
use Prim.Native.Nat.{ℕ, ◌≤◌, ◌<◌}
use native.Mathlib.Omega.{arith}
use mathlib.Core.Path.{◌≡◌, ◌∙◌}
use mathlib.Core.List.{List}
use mathlib.Core.Bool.{Bool, true, false, cond, not}
use lib.Dec.{ltb, leb, eqb}
use lib.ListN.{length, get_or, set}
use lib.Seq.{get_or-set_same}
use borrow.Author.Tests.{eqb-true, eqb-false, ltb-true, ltb-false, not-true, not-false}
use Rattle.sdp.specs.Text.{read_text}
use Rattle.flow.specs.declared.Settings.{Settings}
use Rattle.flow.specs.Fit.{said, fit_of}
use Rattle.flow.proofs.Tests.{by_test}
use Rattle.book.specs.declared.Row.{Row}
use Rattle.book.specs.declared.Seen.{Seen}
use Rattle.book.specs.declared.Stepped.{Stepped}
use Rattle.book.specs.Booking.{rates_of, no_rates, above}
use Rattle.book.specs.Calls.{no_offer, fresh_row, settled, accepted_reply, changed_by, stays, barred, offer_said, offer_step, derives, answer_books, answer_said, answer_step, cancel_step, close_step}
use Rattle.book.specs.Look.{nothing_seen}
use Rattle.book.specs.Model.{Call, session_of, look, row_call, call_of}

-- Where a step is no refusal, a test that refuses did not pass, and the step is what comes next.
passed : (row : Row) (test : Bool) (number place : ℕ) (next : Stepped) → (test ≡ true → number ≡ 0 → ⊥)
    → (cond test (stays row number place) next).reply.refusal ≡ 0 → (test ≡ false) × (cond test (stays row number place) next ≡ next)
passed row test number place next some h = by_test test (λ e. absurd (some e (rw e at h))) (λ e. (e, rw e))

-- the number tested is the number refused with
is_zero : (n : ℕ) → not (eqb n 0) ≡ false → n ≡ 0
is_zero n e = eqb-true n 0 (not-false (eqb n 0) e)

not_zero : (n : ℕ) → not (eqb n 0) ≡ true → n ≡ 0 → ⊥
not_zero n e = eqb-false n 0 (not-true (eqb n 0) e)

module _ (row : Row) (seen : Seen) where
  -- an accepted offer: no offer was open, its text is good and has lines enough, and it leaves the row with the offer
  pub record OfferAccepted (origin : ℕ) (text : List ℕ) : Type 0 where
    pub free : barred seen row (leb origin 1) ≡ 0
    pub closed : row.offer.present ≡ 0
    pub good : (read_text text).refusal ≡ 0
    pub enough : row.held.count ≤ (read_text text).count
    pub leaves : offer_step row seen origin text
        ≡ record { row = record { held = row.held; offer = record { present = 1; origin = origin; said = said (read_text text) } }; reply = accepted_reply }

  -- an accepted answer: an offer was open, its text is good and fits, the pool has room, and it leaves what is derived
  pub record AnswerAccepted (settings : Settings) (text : List ℕ) : Type 0 where
    pub free : barred seen row true ≡ 0
    pub offered : row.offer.present ≡ 0 → ⊥
    pub good : (read_text text).refusal ≡ 0
    pub fits : (fit_of row.offer.said (said (read_text text))).refusal ≡ 0
    pub within : above settings.pool seen.booked (rates_of row.held) (rates_of (derives settings row (read_text text))) ≡ false
    pub leaves : answer_step row seen settings text
        ≡ record {
          row = record { held = derives settings row (read_text text); offer = no_offer };
          reply = changed_by (rates_of (derives settings row (read_text text))) (rates_of row.held);
        }

  -- an accepted cancel: an offer was open, and it leaves the row but for the offer
  pub record CancelAccepted : Type 0 where
    pub free : barred seen row true ≡ 0
    pub offered : row.offer.present ≡ 0 → ⊥
    pub leaves : cancel_step row seen ≡ record { row = settled row; reply = accepted_reply }

  -- an accepted close: no offer was open, an exchange was completed, and it leaves a fresh row
  pub record CloseAccepted : Type 0 where
    pub free : barred seen row true ≡ 0
    pub closed : row.offer.present ≡ 0
    pub completed : row.held.completed ≡ 0 → ⊥
    pub leaves : close_step row seen ≡ record { row = fresh_row; reply = changed_by no_rates (rates_of row.held) }

  -- Past 10 and 19.
  freed : (well : Bool) (next : Stepped) → (cond (not (eqb (barred seen row well) 0)) (stays row (barred seen row well) 0) next).reply.refusal ≡ 0
      → (barred seen row well ≡ 0) × (cond (not (eqb (barred seen row well) 0)) (stays row (barred seen row well) 0) next ≡ next)
  freed well next h =
      let p = passed row (not (eqb (barred seen row well) 0)) (barred seen row well) 0 next (not_zero (barred seen row well)) h in
      (is_zero (barred seen row well) p.0, p.1)

  -- Past a number of its own.
  own : (test : Bool) (number : ℕ) (next : Stepped) → (number ≡ 0 → ⊥) → (cond test (stays row number 0) next).reply.refusal ≡ 0
      → (test ≡ false) × (cond test (stays row number 0) next ≡ next)
  own test number next some h = passed row test number 0 next (λ e. some) h

  -- Past the faults of the text.
  readable : (text : List ℕ) (next : Stepped)
      → (cond (not (eqb (read_text text).refusal 0)) (stays row (read_text text).refusal (read_text text).place) next).reply.refusal ≡ 0
      → ((read_text text).refusal ≡ 0)
      × (cond (not (eqb (read_text text).refusal 0)) (stays row (read_text text).refusal (read_text text).place) next ≡ next)
  readable text next h =
      let p = passed row (not (eqb (read_text text).refusal 0)) (read_text text).refusal (read_text text).place next (not_zero (read_text text).refusal) h in
      (is_zero (read_text text).refusal p.0, p.1)

  -- What an accepted cancel passed and leaves.
  pub cancel_accepted : (cancel_step row seen).reply.refusal ≡ 0 → CancelAccepted
  unfolding cancel_step
  cancel_accepted h =
      let a = freed true _ h in
      let b = own (eqb row.offer.present 0) 12 _ (λ z. omega (arith, z)) (rw a.1 at h) in
      record { free = a.0; offered = eqb-false row.offer.present 0 b.0; leaves = a.1 ∙ b.1 }

  -- What an accepted close passed and leaves.
  pub close_accepted : (close_step row seen).reply.refusal ≡ 0 → CloseAccepted
  unfolding close_step
  close_accepted h =
      let a = freed true _ h in
      let b = own (not (eqb row.offer.present 0)) 11 _ (λ z. omega (arith, z)) (rw a.1 at h) in
      let c = own (eqb row.held.completed 0) 13 _ (λ z. omega (arith, z)) (rw (a.1 ∙ b.1) at h) in
      record {
        free = a.0;
        closed = is_zero row.offer.present b.0;
        completed = eqb-false row.held.completed 0 c.0;
        leaves = a.1 ∙ b.1 ∙ c.1;
      }

  -- What an accepted offer passed and leaves.
  pub offer_accepted : (origin : ℕ) (text : List ℕ) → (offer_step row seen origin text).reply.refusal ≡ 0 → OfferAccepted origin text
  unfolding offer_step offer_said
  offer_accepted origin text h =
      let a = freed (leb origin 1) _ h in
      let b = own (not (eqb row.offer.present 0)) 11 _ (λ z. omega (arith, z)) (rw a.1 at h) in
      let c = readable text _ (rw (a.1 ∙ b.1) at h) in
      let d = own (ltb (read_text text).count row.held.count) 14 _ (λ z. omega (arith, z)) (rw (a.1 ∙ b.1 ∙ c.1) at h) in
      record {
        free = a.0;
        closed = is_zero row.offer.present b.0;
        good = c.0;
        enough = ltb-false (read_text text).count row.held.count d.0;
        leaves = a.1 ∙ b.1 ∙ c.1 ∙ d.1;
      }

  -- What an accepted answer passed and leaves.
  pub answer_accepted : (settings : Settings) (text : List ℕ) → (answer_step row seen settings text).reply.refusal ≡ 0 → AnswerAccepted settings text
  unfolding answer_step answer_said answer_books
  answer_accepted settings text h =
      let fit = fit_of row.offer.said (said (read_text text)) in
      let old = rates_of row.held in
      let new = rates_of (derives settings row (read_text text)) in
      let a = freed true _ h in
      let b = own (eqb row.offer.present 0) 12 _ (λ z. omega (arith, z)) (rw a.1 at h) in
      let c = readable text _ (rw (a.1 ∙ b.1) at h) in
      let d = passed row (not (eqb fit.refusal 0)) 15 fit.place _ (λ e z. omega (arith, z)) (rw (a.1 ∙ b.1 ∙ c.1) at h) in
      let f = own (above settings.pool seen.booked old new) 16 _ (λ z. omega (arith, z)) (rw (a.1 ∙ b.1 ∙ c.1 ∙ d.1) at h) in
      record {
        free = a.0;
        offered = eqb-false row.offer.present 0 b.0;
        good = c.0;
        fits = is_zero fit.refusal d.0;
        within = f.0;
        leaves = a.1 ∙ b.1 ∙ c.1 ∙ d.1 ∙ f.1;
      }

-- an accepted call names a row, and answers and leaves what the call on that row does
pub record Reached (settings : Settings) (rows : List Row) (call : Call) : Type 0 where
  pub below : session_of call < length rows
  pub out : (call_of settings rows call).out ≡ (row_call settings (look nothing_seen rows) (get_or rows (session_of call) fresh_row) call).out
  pub leaves : (call_of settings rows call).rows ≡ set rows (session_of call) (row_call settings (look nothing_seen rows) (get_or rows (session_of call) fresh_row) call).row
  pub named : get_or (call_of settings rows call).rows (session_of call) fresh_row
      ≡ (row_call settings (look nothing_seen rows) (get_or rows (session_of call) fresh_row) call).row

-- An accepted call names a row of the book.
pub reached : (settings : Settings) (rows : List Row) (call : Call) → (call_of settings rows call).out.reply.refusal ≡ 0 → Reached settings rows call
unfolding call_of
reached settings rows call h =
    by_test (ltb (session_of call) (length rows))
    (λ e.
    let k = ltb-true (session_of call) (length rows) e in
    record { below = k; out = rw e; leaves = rw e; named = rw e (get_or-set_same rows (session_of call) _ fresh_row k) })
    (λ e. absurd (omega (arith, rw e at h)))
