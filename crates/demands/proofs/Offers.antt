-- Offers and answers: an open offer books nothing, a refused answer leaves it open, and the change that a call reports is the change of what
-- its row books. Assumes nothing.
use Prim.Native.Nat.{ℕ, zero, suc, ◌+◌, ◌<◌}
use native.Mathlib.Omega.{arith}
use native.Mathlib.Decide.{ℕ_discrete}
use mathlib.Core.Path.{◌≡◌, refl, sym, ◌∙◌, ap, ap₂}
use mathlib.Core.List.{List}
use mathlib.Core.Bool.{true, cond, not}
use lib.Dec.{eqb}
use lib.IntN.{pos, sub_ℕ}
use lib.ListN.{get_or}
use borrow.Author.Tests.{le-ltb}
use Rattle.sdp.specs.Text.{read_text}
use Rattle.sdp.proofs.Said.{on_cond}
use Rattle.flow.specs.declared.Asked.{Asked}
use Rattle.flow.specs.declared.Descriptions.{Descriptions}
use Rattle.flow.specs.declared.Held.{Held}
use Rattle.flow.specs.declared.Before.{Before}
use Rattle.flow.specs.declared.Rates.{Rates}
use Rattle.flow.specs.declared.Settings.{Settings}
use Rattle.flow.specs.Bearer.{booked_up, booked_down}
use Rattle.flow.specs.Before.{before_of}
use Rattle.flow.specs.Derive.{derived}
use Rattle.flow.specs.Session.{held_at, rate}
use Rattle.flow.specs.Fit.{said}
use Rattle.flow.specs.Slots.{through}
use Rattle.flow.proofs.Repeated.{again_component}
use Rattle.flow.proofs.Derived.{held_at_lem}
use Rattle.book.specs.declared.Reply.{Reply}
use Rattle.book.specs.declared.Row.{Row}
use Rattle.book.specs.declared.Seen.{Seen}
use Rattle.book.specs.declared.Stepped.{Stepped}
use Rattle.book.specs.Booking.{up_to, down_to, rates_of, change_of}
use Rattle.book.specs.Calls.{no_offer, fresh_row, no_change, refused_with, barred, offer_step, derives, answer_step, cancel_step, close_step, is_asked, bearer_step, statement_step}
use Rattle.book.specs.Look.{nothing_seen}
use Rattle.book.specs.Model.{Call, offers, answers, cancels, closes, asks, states, session_of, look, row_call, call_of}
use Rattle.demands.proofs.Passed.{AnswerAccepted, offer_accepted, answer_accepted, cancel_accepted, close_accepted, reached}
use Rattle.demands.proofs.Refusals.{Refusing, after_step, offer_step_lem, answer_step_lem, cancel_step_lem, close_step_lem, refused_stays, row_stays, refused_change, row_after}

-- Nothing less itself is 0.
sub_self : (n : ℕ) → sub_ℕ n n ≡ pos 0
sub_self n = rw (le-ltb n n (omega arith)) (ap pos (omega arith))

-- Where a session books the same rates as before, the change is 0 and 0.
pub same_change : (new old : Rates) → new ≡ old → change_of new old ≡ no_change
same_change new old e = rw (e, sub_self old.up.0, sub_self old.down.0)

module _ (row : Row) (seen : Seen) where
  -- An offer, accepted or not, leaves what the session holds: an open offer books nothing.
  pub offer_holds : (origin : ℕ) (text : List ℕ) → (offer_step row seen origin text).row.held ≡ row.held
  offer_holds origin text =
      after_step row seen (λ (r : Row). r.held ≡ row.held) (offer_step row seen origin text) (offer_step_lem row seen origin text) refl
      (λ h. rw (offer_accepted row seen origin text h).leaves)

  -- A cancel, accepted or not, leaves what the session holds.
  pub cancel_holds : (cancel_step row seen).row.held ≡ row.held
  cancel_holds =
      after_step row seen (λ (r : Row). r.held ≡ row.held) (cancel_step row seen) (cancel_step_lem row seen) refl (λ h. rw (cancel_accepted row seen h).leaves)

  -- A refused answer leaves the offer open as it was.
  pub refused_answer : (settings : Settings) (text : List ℕ) → ((answer_step row seen settings text).reply.refusal ≡ 0 → ⊥)
      → (answer_step row seen settings text).row.offer ≡ row.offer
  refused_answer settings text h = rw ((answer_step_lem row seen settings text).same h)

  -- The change that a step reports is the change of what its row books, where it is so of an accepted one.
  step_change : (step : Stepped) → Refusing row seen step → (step.reply.refusal ≡ 0 → step.reply.change ≡ change_of (rates_of step.row.held) (rates_of row.held))
      → step.reply.change ≡ change_of (rates_of step.row.held) (rates_of row.held)
  step_change step r h = by (ℕ_discrete step.reply.refusal 0) where
    by : Dec (step.reply.refusal ≡ 0) → step.reply.change ≡ change_of (rates_of step.row.held) (rates_of row.held)
    by (yes e) = h e
    by (no e) = r.answer.change e ∙ sym (same_change (rates_of step.row.held) (rates_of row.held) (rw (r.same e)))

  -- An answer reports the new booking of its session less the old one.
  pub answer_change : (settings : Settings) (text : List ℕ)
      → (answer_step row seen settings text).reply.change ≡ change_of (rates_of (answer_step row seen settings text).row.held) (rates_of row.held)
  answer_change settings text =
      step_change (answer_step row seen settings text) (answer_step_lem row seen settings text) (λ h. rw (answer_accepted row seen settings text h).leaves)

  -- So does a close.
  pub close_change : (close_step row seen).reply.change ≡ change_of (rates_of (close_step row seen).row.held) (rates_of row.held)
  unfolding rates_of up_to down_to through
  close_change = step_change (close_step row seen) (close_step_lem row seen) (λ h. rw (close_accepted row seen h).leaves)

  -- Where an answer books the same rates as before, the change is 0 and 0.
  pub answer_same : (settings : Settings) (text : List ℕ) → rates_of (answer_step row seen settings text).row.held ≡ rates_of row.held
      → (answer_step row seen settings text).reply.change ≡ no_change
  answer_same settings text e = answer_change settings text ∙ same_change (rates_of (answer_step row seen settings text).row.held) (rates_of row.held) e

  -- A bearer and a statement report no change.
  asked_change : (b : ℕ) (next : Reply) → next.change ≡ no_change
      → (cond (not (eqb b 0)) (refused_with b 0) (cond (eqb row.held.completed 0) (refused_with 13 0) next)).change ≡ no_change
  asked_change b next h = on_cond Unchanged (not (eqb b 0)) refl (on_cond Unchanged (eqb row.held.completed 0) refl h) where
    Unchanged : Reply → Type 0
    Unchanged r = r.change ≡ no_change

  unchanged : no_change ≡ change_of (rates_of row.held) (rates_of row.held)
  unchanged = sym (same_change (rates_of row.held) (rates_of row.held) refl)

  -- The change that a call reports is the change of what its row books: new minus old, for every call and every answer.
  pub change_told : (settings : Settings) (call : Call)
      → (row_call settings seen row call).out.reply.change ≡ change_of (rates_of (row_call settings seen row call).row.held) (rates_of row.held)
  unfolding row_call bearer_step statement_step
  change_told settings (offers session origin text) =
      step_change (offer_step row seen origin text) (offer_step_lem row seen origin text) (λ h. rw (offer_accepted row seen origin text h).leaves unchanged)
  change_told settings (answers session text) = answer_change settings text
  change_told settings (cancels session) =
      step_change (cancel_step row seen) (cancel_step_lem row seen) (λ h. rw (cancel_accepted row seen h).leaves unchanged)
  change_told settings (closes session) = close_change
  change_told settings (asks session bearer) = asked_change (barred seen row (is_asked bearer.class)) _ refl ∙ unchanged
  change_told settings (states session room) = asked_change (barred seen row true) _ refl ∙ unchanged

-- Two sums over the slots are the same where the slots are.
sum_same : (f g : ℕ → ℕ) (n : ℕ) → ((j : ℕ) → j < n → f j ≡ g j) → through (λ j sum. sum + f j) 0 n ≡ through (λ j sum. sum + g j) 0 n
unfolding through
sum_same f g zero h = refl
sum_same f g (suc n) h = ap₂ ◌+◌ (sum_same f g n (λ j k. h j (omega (arith, k)))) (h n (omega arith))

-- Two sessions of which every slot books the same book the same.
pub rates_same : (a b : Held)
    → ((j : ℕ) → j < 8 → (booked_up (held_at a j) ≡ booked_up (held_at b j)) × (booked_down (held_at a j) ≡ booked_down (held_at b j))) → rates_of a ≡ rates_of b
unfolding rates_of up_to down_to
rates_same a b same =
    ap₂ (λ up down. record { up = rate up; down = rate down })
    (sum_same (λ j. booked_up (held_at a j)) (λ j. booked_up (held_at b j)) 8 (λ j h. (same j h).0))
    (sum_same (λ j. booked_down (held_at a j)) (λ j. booked_down (held_at b j)) 8 (λ j h. (same j h).1))

-- To derive from the same offer and answer a second time books the same rates.
pub again_rates : (settings : Settings) (origin : ℕ) (was : Before) (offer answer : Descriptions)
    → rates_of (derived settings origin (before_of (derived settings origin was offer answer)) offer answer) ≡ rates_of (derived settings origin was offer answer)
again_rates settings origin was offer answer = rates_same twice once slot where
  once : Held
  once = derived settings origin was offer answer

  twice : Held
  twice = derived settings origin (before_of once) offer answer

  slot : (j : ℕ) → j < 8 → (booked_up (held_at twice j) ≡ booked_up (held_at once j)) × (booked_down (held_at twice j) ≡ booked_down (held_at once j))
  slot j h =
      let k = again_component settings origin was offer answer j h in
      rw (held_at_lem settings origin (before_of once) offer answer j h, held_at_lem settings origin was offer answer j h, k.0, k.1) (refl, refl)

-- An answer to an offer that the session holds from already, under the same settings, changes nothing: no rate is taken off twice.
pub again_answer : (settings : Settings) (row : Row) (seen : Seen) (was : Before) (text : List ℕ)
    → row.held ≡ derived settings row.offer.origin was row.offer.said (said (read_text text)) → (answer_step row seen settings text).reply.change ≡ no_change
again_answer settings row seen was text e =
    answer_same row seen settings text
    (after_step row seen (λ (r : Row). rates_of r.held ≡ rates_of row.held) (answer_step row seen settings text) (answer_step_lem row seen settings text) refl
    (λ h.
    rw ((answer_accepted row seen settings text h).leaves, e) (again_rates settings row.offer.origin was row.offer.said (said (read_text text)))))

module _ (settings : Settings) (rows : List Row) where
  -- A bearer changes no row.
  pub bearer_stays : (session : ℕ) (bearer : Asked) → (call_of settings rows (asks session bearer)).rows ≡ rows
  unfolding row_call
  bearer_stays session bearer = row_stays settings rows (asks session bearer) refl

  -- A statement changes no row.
  pub statement_stays : (session room : ℕ) → (call_of settings rows (states session room)).rows ≡ rows
  unfolding row_call
  statement_stays session room = row_stays settings rows (states session room) refl

  -- An offer leaves what every session holds, and so all that is booked.
  pub offer_books : (session origin : ℕ) (text : List ℕ) (j : ℕ)
      → (get_or (call_of settings rows (offers session origin text)).rows j fresh_row).held ≡ (get_or rows j fresh_row).held
  unfolding row_call
  offer_books session origin text j =
      row_after settings rows (offers session origin text) (λ (r : Row). r.held ≡ (get_or rows j fresh_row).held) j refl
      (λ e. offer_holds (get_or rows j fresh_row) (look nothing_seen rows) origin text)

  -- So does a cancel.
  pub cancel_books : (session j : ℕ) → (get_or (call_of settings rows (cancels session)).rows j fresh_row).held ≡ (get_or rows j fresh_row).held
  unfolding row_call
  cancel_books session j =
      row_after settings rows (cancels session) (λ (r : Row). r.held ≡ (get_or rows j fresh_row).held) j refl
      (λ e. cancel_holds (get_or rows j fresh_row) (look nothing_seen rows))

  -- The row after an accepted offer.
  pub offer_at : (session origin : ℕ) (text : List ℕ) → (call_of settings rows (offers session origin text)).out.reply.refusal ≡ 0
      → get_or (call_of settings rows (offers session origin text)).rows session fresh_row
      ≡ record { held = (get_or rows session fresh_row).held; offer = record { present = 1; origin = origin; said = said (read_text text) } }
  unfolding session_of row_call
  offer_at session origin text h =
      let r = reached settings rows (offers session origin text) h in
      r.named ∙ ap (λ (step : Stepped). step.row) (offer_accepted (get_or rows session fresh_row) (look nothing_seen rows) origin text (rw r.out at h)).leaves

  -- What an accepted answer passed, at its row.
  pub answer_at : (session : ℕ) (text : List ℕ) → (call_of settings rows (answers session text)).out.reply.refusal ≡ 0
      → AnswerAccepted (get_or rows session fresh_row) (look nothing_seen rows) settings text
  unfolding session_of row_call
  answer_at session text h =
      answer_accepted (get_or rows session fresh_row) (look nothing_seen rows) settings text (rw (reached settings rows (answers session text) h).out at h)

  -- The row after an accepted answer.
  pub answer_row : (session : ℕ) (text : List ℕ) → (call_of settings rows (answers session text)).out.reply.refusal ≡ 0
      → get_or (call_of settings rows (answers session text)).rows session fresh_row
      ≡ record { held = derives settings (get_or rows session fresh_row) (read_text text); offer = no_offer }
  unfolding session_of row_call
  answer_row session text h =
      (reached settings rows (answers session text) h).named ∙ ap (λ (step : Stepped). step.row) (answer_at session text h).leaves

  -- What the book reports of an answer is what its row does.
  answer_told : (session : ℕ) (text : List ℕ) → (call_of settings rows (answers session text)).out.reply.refusal ≡ 0
      → (call_of settings rows (answers session text)).out.reply ≡ (answer_step (get_or rows session fresh_row) (look nothing_seen rows) settings text).reply
  unfolding session_of row_call
  answer_told session text h = rw (reached settings rows (answers session text) h).out

module _ (settings : Settings) (rows : List Row) (session origin : ℕ) (offer answer : List ℕ) where
  -- the book after an exchange, and after the same offer again
  abbrev pub offered : List Row
  offered = (call_of settings rows (offers session origin offer)).rows

  abbrev pub answered : List Row
  answered = (call_of settings offered (answers session answer)).rows

  abbrev pub offered_again : List Row
  offered_again = (call_of settings answered (offers session origin offer)).rows

  module _ (h : (call_of settings rows (offers session origin offer)).out.reply.refusal ≡ 0) (k : (call_of settings offered (answers session answer)).out.reply.refusal ≡ 0) where
    -- What the session holds after the exchange.
    pub holds : get_or answered session fresh_row
        ≡ record {
          held = derived settings origin (before_of (get_or rows session fresh_row).held) (said (read_text offer)) (said (read_text answer));
          offer = no_offer;
        }
    holds = answer_row settings offered session answer k ∙ rw (offer_at settings rows session origin offer h)

    -- "Taking the rate off twice for one dropped flow": the same exchange once more, however it is answered, changes nothing that is booked.
    pub again_change : (call_of settings offered_again (answers session answer)).out.reply.change ≡ no_change
    again_change =
        by (ℕ_discrete (call_of settings offered_again (answers session answer)).out.reply.refusal 0)
        (ℕ_discrete (call_of settings answered (offers session origin offer)).out.reply.refusal 0) where
          row : Row
          row = get_or offered_again session fresh_row

          by : Dec ((call_of settings offered_again (answers session answer)).out.reply.refusal ≡ 0)
              → Dec ((call_of settings answered (offers session origin offer)).out.reply.refusal ≡ 0)
              → (call_of settings offered_again (answers session answer)).out.reply.change ≡ no_change
          by (no g) d = refused_change settings offered_again (answers session answer) g
          by (yes g) (yes e) =
              ap (λ (reply : Reply). reply.change) (answer_told settings offered_again session answer g)
              ∙ again_answer settings row (look nothing_seen offered_again) (before_of (get_or rows session fresh_row).held) answer
              (rw (offer_at settings answered session origin offer e, holds))
          by (yes g) (no e) =
              absurd
              ((answer_at settings offered_again session answer g).offered
              (rw (refused_stays settings answered (offers session origin offer) e, holds)))
