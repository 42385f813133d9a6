-- "Taking the rate off twice for one dropped flow": an exchange that was accepted is accepted once more, and changes nothing then. Assumes nothing.
use Prim.Native.Nat.{ℕ, ◌+◌, ◌-◌, ◌≤◌, ◌<◌}
use native.Mathlib.Omega.{arith}
use mathlib.Core.Path.{◌≡◌, refl, sym, ◌∙◌, ap}
use mathlib.Core.List.{List}
use mathlib.Core.Bool.{Bool, true, false}
use lib.Dec.{ltb, leb}
use lib.ListN.{length, get_or, set}
use borrow.Author.Tests.{le-leb, le-ltb, lt-ltb, ltb-false}
use Rattle.sdp.specs.Text.{read_text}
use Rattle.sdp.proofs.Ranged.{in_1}
use Rattle.sdp.proofs.Ranges.{good_text}
use Rattle.flow.specs.declared.Held.{Held}
use Rattle.flow.specs.declared.Limit.{Limit}
use Rattle.flow.specs.declared.Rates.{Rates}
use Rattle.flow.specs.declared.Settings.{Settings}
use Rattle.flow.specs.Before.{before_of}
use Rattle.flow.specs.Derive.{derived}
use Rattle.flow.specs.Fit.{said, fit_of}
use Rattle.flow.specs.Range.{SettingsRange, held_rates}
use Rattle.flow.specs.Session.{rate}
use Rattle.flow.proofs.Slots.{eight_same}
use Rattle.flow.proofs.Tests.{neither_left, neither_right}
use Rattle.book.specs.declared.Change.{Change}
use Rattle.book.specs.declared.Row.{Row}
use Rattle.book.specs.declared.Seen.{Seen}
use Rattle.book.specs.declared.Stepped.{Stepped}
use Rattle.book.specs.Booking.{rates_of, no_rates, above}
use Rattle.book.specs.Calls.{no_offer, fresh_row, accepted_reply, changed_by, barred, offer_said, offer_step, derives, answer_books, answer_said, answer_step}
use Rattle.book.specs.Look.{nothing_seen}
use Rattle.book.specs.Model.{Call, offers, answers, session_of, look, row_call, call_of}
use Rattle.book.proofs.NotBarred.{origin_in}
use Rattle.book.proofs.Ranged.{range_rates}
use Rattle.demands.proofs.RowRanges.{RowsRange, call_range}
use Rattle.demands.proofs.Offers.{same_change, again_rates, offer_at, answer_at, offered, answered, offered_again, holds}
use Rattle.demands.proofs.Passed.{OfferAccepted, AnswerAccepted, offer_accepted, reached}
use Rattle.demands.proofs.Refusals.{rows_stay}
use Rattle.demands.proofs.Totals.{sum_of, row_up, row_down, booked_up_all, booked_down_all, sum_set, fresh_books, seen_of, look_finds}

-- What passes every test is accepted: an offer,
offer_passes : (row : Row) (seen : Seen) (origin : ℕ) (text : List ℕ) → barred seen row (leb origin 1) ≡ 0 → row.offer.present ≡ 0
    → (read_text text).refusal ≡ 0 → row.held.count ≤ (read_text text).count
    → offer_step row seen origin text
    ≡ record { row = record { held = row.held; offer = record { present = 1; origin = origin; said = said (read_text text) } }; reply = accepted_reply }
unfolding offer_step offer_said
offer_passes row seen origin text free closed good enough = rw (free, closed, good, le-ltb (read_text text).count row.held.count enough)

-- and an answer.
answer_passes : (row : Row) (seen : Seen) (settings : Settings) (text : List ℕ) → barred seen row true ≡ 0 → row.offer.present ≡ 1
    → (read_text text).refusal ≡ 0 → (fit_of row.offer.said (said (read_text text))).refusal ≡ 0
    → above settings.pool seen.booked (rates_of row.held) (rates_of (derives settings row (read_text text))) ≡ false
    → (answer_step row seen settings text).reply ≡ changed_by (rates_of (derives settings row (read_text text))) (rates_of row.held)
unfolding answer_step answer_said answer_books
answer_passes row seen settings text free is_open good fits within = rw (free, is_open, good, fits, within)

-- A look that finds up to sixteen rows in their ranges bars no row in its ranges.
free_row : (rows up down : ℕ) (row : Row) (well : Bool) → 1 ≤ rows → rows ≤ 16 → held_rates row.held ≡ true → well ≡ true → barred (seen_of rows 1 up down) row well ≡ 0
unfolding barred
free_row rows up down row well some few rates is-well = rw (in_1 16 rows (some, few), rates, is-well)

-- A row books no more than all rows.
sum_has : (f : Row → ℕ) (rows : List Row) (j : ℕ) → f fresh_row ≡ 0 → j < length rows → f (get_or rows j fresh_row) ≤ sum_of f rows
sum_has f rows j none h = omega (arith, none, sum_set f rows j fresh_row h)

-- The pool has room for what is booked already.
not_above : (pool : Limit) (total old new : Rates) → new ≡ old → old.up.0 ≤ total.up.0 → old.down.0 ≤ total.down.0
    → total.up.0 ≤ pool.up → total.down.0 ≤ pool.down → above pool total old new ≡ false
unfolding above
not_above pool total old new e up down fits-up fits-down =
    rw (
      e,
      le-ltb pool.up (total.up.0 - old.up.0 + old.up.0) (omega (arith, up, fits-up)),
      le-ltb pool.down (total.down.0 - old.down.0 + old.down.0) (omega (arith, down, fits-down)),
    )

-- A call that names a row answers what the call on that row does.
called : (settings : Settings) (rows : List Row) (call : Call) → session_of call < length rows
    → (call_of settings rows call).out.reply ≡ (row_call settings (look nothing_seen rows) (get_or rows (session_of call) fresh_row) call).out.reply
unfolding call_of
called settings rows call h = rw (lt-ltb (session_of call) (length rows) h)

-- Where one row changes and books the same, all rows book the same.
sum_stays : (f : Row → ℕ) (rows : List Row) (j : ℕ) (row : Row) → j < length rows → f row ≡ f (get_or rows j fresh_row) → sum_of f (set rows j row) ≡ sum_of f rows
sum_stays f rows j row h e = omega (arith, e, sum_set f rows j row h)

module _ (settings : Settings) (limits : SettingsRange settings) (rows : List Row) (range : RowsRange rows) (few : length rows ≤ 16)
    (session origin : ℕ) (offer answer : List ℕ)
    (h : (call_of settings rows (offers session origin offer)).out.reply.refusal ≡ 0)
    (k : (call_of settings (offered settings rows session origin offer answer) (answers session answer)).out.reply.refusal ≡ 0) where
  -- the rows after the offer, after its answer, and after the same offer again
  abbrev opened : List Row
  opened = offered settings rows session origin offer answer

  abbrev booked : List Row
  booked = answered settings rows session origin offer answer

  abbrev again : List Row
  again = offered_again settings rows session origin offer answer

  opened_range : RowsRange opened
  opened_range = call_range settings rows (offers session origin offer) limits range

  booked_range : RowsRange booked
  booked_range = call_range settings opened (answers session answer) limits opened_range

  again_range : RowsRange again
  again_range = call_range settings booked (offers session origin offer) limits booked_range

  opened_length : length opened ≡ length rows
  opened_length = rows_stay settings rows (offers session origin offer)

  booked_length : length booked ≡ length rows
  booked_length = rows_stay settings opened (answers session answer) ∙ opened_length

  again_length : length again ≡ length rows
  again_length = rows_stay settings booked (offers session origin offer) ∙ booked_length

  below : session < length rows
  unfolding session_of
  below = (reached settings rows (offers session origin offer) h).below

  passed : AnswerAccepted (get_or opened session fresh_row) (look nothing_seen opened) settings answer
  passed = answer_at settings opened session answer k

  -- what the first exchange left
  abbrev first : Held
  first = derived settings origin (before_of (get_or rows session fresh_row).held) (said (read_text offer)) (said (read_text answer))

  abbrev then : Row
  then = record { held = first; offer = no_offer }

  opened_row : get_or opened session fresh_row
      ≡ record { held = (get_or rows session fresh_row).held; offer = record { present = 1; origin = origin; said = said (read_text offer) } }
  opened_row = offer_at settings rows session origin offer h

  booked_set : booked ≡ set opened session then
  unfolding session_of row_call
  booked_set = (reached settings opened (answers session answer) k).leaves ∙ rw (passed.leaves, opened_row)

  -- The first answer left no more booked than the pool.
  within : (booked_up_all booked ≤ settings.pool.up) × (booked_down_all booked ≤ settings.pool.down)
  unfolding above
  within =
      let w = rw (look_finds opened opened_range (omega (arith, opened_length, few)), opened_row) at passed.within in
      let up = booked_up_all opened - row_up (get_or rows session fresh_row) + row_up then in
      let down = booked_down_all opened - row_down (get_or rows session fresh_row) + row_down then in
      let j : session < length opened = omega (arith, opened_length, below) in
      let old : row_up (get_or opened session fresh_row) ≡ row_up (get_or rows session fresh_row) = rw opened_row in
      let old-down : row_down (get_or opened session fresh_row) ≡ row_down (get_or rows session fresh_row) = rw opened_row in
      rw booked_set (
        omega (arith, sum_set row_up opened session then j, old, ltb-false settings.pool.up up (neither_left (ltb settings.pool.up up) (ltb settings.pool.down down) w)),
        omega (arith, sum_set row_down opened session then j, old-down, ltb-false settings.pool.down down (neither_right (ltb settings.pool.up up) (ltb settings.pool.down down) w)),
      )

  well : leb origin 1 ≡ true
  unfolding session_of row_call
  well =
      le-leb origin 1
      (origin_in (get_or rows session fresh_row) (look nothing_seen rows) 0 origin (sym offer_opens.free) refl) where
        offer_opens : OfferAccepted (get_or rows session fresh_row) (look nothing_seen rows) origin offer
        offer_opens = offer_accepted (get_or rows session fresh_row) (look nothing_seen rows) origin offer (rw (reached settings rows (offers session origin offer) h).out at h)

  text_good : (read_text offer).refusal ≡ 0
  unfolding session_of row_call
  text_good =
      (offer_accepted (get_or rows session fresh_row) (look nothing_seen rows) origin offer (rw (reached settings rows (offers session origin offer) h).out at h)).good

  booked_row : get_or booked session fresh_row ≡ then
  booked_row = holds settings rows session origin offer answer h k

  -- The same offer is accepted: nothing is open, and it has as many lines as the exchange that it made.
  offered_twice : (call_of settings booked (offers session origin offer)).out.reply ≡ accepted_reply
  unfolding session_of row_call derived
  offered_twice =
      called settings booked (offers session origin offer) (omega (arith, booked_length, below))
      ∙ ap (λ (s : Stepped). s.reply)
      (offer_passes (get_or booked session fresh_row) (look nothing_seen booked) origin offer
      (rw (look_finds booked booked_range (omega (arith, booked_length, few)))
      (free_row (length booked) (booked_up_all booked) (booked_down_all booked) (get_or booked session fresh_row) (leb origin 1) (omega (arith, booked_length, below))
      (omega (arith, booked_length, few))
      (range_rates (get_or booked session fresh_row) (booked_range.each session))
      well))
      (rw booked_row)
      text_good
      (rw booked_row (omega (arith, eight_same (read_text offer).count (good_text offer text_good).1.few))))

  again_accepted : (call_of settings booked (offers session origin offer)).out.reply.refusal ≡ 0
  again_accepted = rw offered_twice

  again_row : get_or again session fresh_row ≡ record { held = first; offer = record { present = 1; origin = origin; said = said (read_text offer) } }
  again_row = offer_at settings booked session origin offer again_accepted ∙ rw booked_row

  again_set : again ≡ set booked session (record { held = first; offer = record { present = 1; origin = origin; said = said (read_text offer) } })
  unfolding session_of row_call
  again_set =
      (reached settings booked (offers session origin offer) again_accepted).leaves
      ∙ ap (λ (row : Row). set booked session row) (sym (reached settings booked (offers session origin offer) again_accepted).named ∙ again_row)

  -- An open offer books nothing.
  again_sum : (f : Row → ℕ) → ((row now : Row) → row.held ≡ now.held → f row ≡ f now) → sum_of f again ≡ sum_of f booked
  again_sum f same =
      ap (sum_of f) again_set
      ∙ sum_stays f booked session (record { held = first; offer = record { present = 1; origin = origin; said = said (read_text offer) } }) (omega (arith, booked_length, below))
      (same _ _ (rw booked_row))

  -- The same answer is accepted: it books what is booked already.
  answered_twice : (call_of settings again (answers session answer)).out.reply ≡ accepted_reply
  unfolding session_of row_call
  answered_twice =
      let row = get_or again session fresh_row in
      let j : session < length again = omega (arith, again_length, below) in
      let same : rates_of (derives settings row (read_text answer)) ≡ rates_of row.held =
      rw again_row (again_rates settings origin (before_of (get_or rows session fresh_row).held) (said (read_text offer)) (said (read_text answer))) in
      called settings again (answers session answer) j
      ∙ answer_passes row (look nothing_seen again) settings answer
      (rw (look_finds again again_range (omega (arith, again_length, few)))
      (free_row (length again) (booked_up_all again) (booked_down_all again) row true (omega (arith, j)) (omega (arith, again_length, few))
      (range_rates row (again_range.each session))
      refl))
      (rw again_row)
      passed.good
      (rw again_row (rw opened_row at passed.fits))
      (rw (look_finds again again_range (omega (arith, again_length, few)))
      (not_above settings.pool (record { up = rate (booked_up_all again); down = rate (booked_down_all again) }) (rates_of row.held) (rates_of (derives settings row (read_text answer)))
      same
      (sum_has row_up again session fresh_books.0 j)
      (sum_has row_down again session fresh_books.1 j)
      (omega (arith, within.0, again_sum row_up (λ a b e. rw e)))
      (omega (arith, within.1, again_sum row_down (λ a b e. rw e)))))
      ∙ ap
      (λ (c : Change). record { refusal = 0; place = 0; change = c; class = 0; granted = no_rates; length = 0 })
      (same_change (rates_of (derives settings row (read_text answer))) (rates_of row.held) same)

  -- The same offer and the same answer right after an accepted exchange are accepted, and the change is 0 and 0: nothing is refused, not even
  -- for the pool, and no rate is taken off twice.
  pub again_exchange : ((call_of settings booked (offers session origin offer)).out.reply ≡ accepted_reply) × ((call_of settings again (answers session answer)).out.reply ≡ accepted_reply)
  again_exchange = (offered_twice, answered_twice)
