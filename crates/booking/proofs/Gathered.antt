-- What a look gathers of a row slot by slot is what it sees with the row. Assumes nothing.
use Rattle.std.proofs.Common.{◌≡◌, ℕ, zero, suc, ◌+◌, ◌<◌, ◌≤◌, Bool, true, false, cond, not, ◌&&◌, ◌||◌, eqb, ltb, leb, sym, refl, ap, ◌∙◌, ap₂, arith, lt-ltb}
use borrow.Author.Tests.{not-true, not-false}
use Rattle.sdp.specs.Range.{media_in, is_no_media}
use Rattle.flow.specs.declared.Held.{Held}
use Rattle.flow.specs.declared.Rates.{Rates}
use Rattle.flow.specs.Session.{held_at, rate}
use Rattle.flow.specs.Derive.{said_at}
use Rattle.flow.specs.Slots.{through, every}
use Rattle.flow.specs.Range.{is_class, component_at, held_in, media_at}
use Rattle.flow.proofs.Tests.{by_test}
use Rattle.flow.proofs.Slots.{every_has, through_next}
use Rattle.flow.proofs.Ranged.{unused_rates, held_slots, held_rates_lem}
use Rattle.book.specs.declared.Offer.{Offer}
use Rattle.book.specs.declared.Row.{Row}
use Rattle.book.specs.declared.Seen.{Seen}
use Rattle.book.specs.Booking.{up_to, down_to, rates_of}
use Rattle.book.specs.Look.{added, looked}
use Rattle.book.specs.Sound.{offer_in, is_sound}
use Rattle.book.proofs.NotBarred.{sound_held}
use Rattle.booking.specs.declared.slots.Tally.{Tally}
use Rattle.booking.specs.Slots.{no_tally, with_used, with_unused, held_slot, offer_slot, held_to, offer_to, held_head, offer_head, ended}
use Rattle.booking.proofs.Adding.{rates_to, rates_next}

module _ (row : Row) where
  -- Below the eighth slot: what a slot adds.
  good_next : (n : ℕ) → n < 8 → (s : Tally) → (held_slot row n s).good ≡ (s.good && component_at row.held n)
  unfolding held_slot component_at
  good_next n h s = by_test (ltb n row.held.count) (λ e. rw (lt-ltb n 8 h, e)) (λ e. rw (lt-ltb n 8 h, e))

  held_good : (n : ℕ) → n ≤ 8 → (held_to row n).good ≡ every (component_at row.held) n
  unfolding held_to through every
  held_good zero h = refl
  held_good (suc n) h =
      good_next n (omega (arith, h)) (held_to row n) ∙ ap (λ g. g && component_at row.held n) (held_good n (omega (arith, h)))

  offer_good : (n : ℕ) → n ≤ 8 → offer_to row n ≡ every (media_at row.offer.said) n
  unfolding offer_to offer_slot through every
  offer_good zero h = refl
  offer_good (suc n) h = rw (lt-ltb n 8 (omega (arith, h))) (ap (λ g. g && media_at row.offer.said n) (offer_good n (omega (arith, h))))

  -- Of a session in range the unused slots book nothing, so that the used ones book all.
  module _ (good : held_in row.held ≡ true) where
    unused_next : (n : ℕ) → n < 8 → ltb n row.held.count ≡ false → rates_to row.held n ≡ rates_to row.held (suc n)
    unfolding up_to down_to through component_at
    unused_next n h e =
        let k = unused_rates (held_at row.held n) (rw e at (every_has (component_at row.held) 8 (held_slots row.held good) n h)) in
        ap₂ (λ up down. record { up = rate up; down = rate down }) (omega (arith, k.0)) (omega (arith, k.1))

    booked_next : (n : ℕ) → n < 8 → (s : Tally) → s.booked ≡ rates_to row.held n → (held_slot row n s).booked ≡ rates_to row.held (suc n)
    unfolding held_slot
    booked_next n h s e =
        by_test (ltb n row.held.count)
        (λ t. rw (lt-ltb n 8 h, t, e) (rates_next row.held (held_rates_lem row.held good) n h))
        (λ t. rw (lt-ltb n 8 h, t, e) (unused_next n h t))

    held_booked : (n : ℕ) → n ≤ 8 → (held_to row n).booked ≡ rates_to row.held n
    unfolding held_to through up_to down_to
    held_booked zero h = refl
    held_booked (suc n) h = booked_next n (omega (arith, h)) (held_to row n) (held_booked n (omega (arith, h)))

-- The tests in another order.
five : (a b c d e : Bool) → (a && (b && (c && (d && e)))) ≡ ((a && (b && (c && d))) && e)
five true true true d e = refl
five true true false d e = refl
five true false c d e = refl
five false b c d e = refl

held_five : (h : Held) (slots : Bool)
    → (leb h.completed 1 && (is_class h.kept && (leb h.count 8 && ((eqb h.completed 1 || (eqb h.kept 0 && eqb h.count 0)) && slots)))) ≡ (held_head h && slots)
held_five h = five (leb h.completed 1) (is_class h.kept) (leb h.count 8) (eqb h.completed 1 || (eqb h.kept 0 && eqb h.count 0))

offer_five : (o : Offer) (slots : Bool)
    → (leb o.present 1 && (leb o.origin 1 && (leb o.said.count 8 && ((eqb o.present 1 || (eqb o.origin 0 && eqb o.said.count 0)) && slots)))) ≡ (offer_head o && slots)
offer_five o = five (leb o.present 1) (leb o.origin 1) (leb o.said.count 8) (eqb o.present 1 || (eqb o.origin 0 && eqb o.said.count 0))

crossed : (a b x y : Bool) → ((x && y) && (a && b)) ≡ ((a && x) && (b && y))
crossed true b true y = swap b y where
  swap : (b y : Bool) → (y && b) ≡ (b && y)
  swap true true = refl
  swap true false = refl
  swap false true = refl
  swap false false = refl
crossed true b false y = refl
crossed false b true true = refl
crossed false b true false = refl
crossed false b false y = refl

all_tests : (row : Row) → (((held_to row 8).good && offer_to row 8) && (held_head row.held && offer_head row.offer)) ≡ is_sound row
unfolding is_sound held_in offer_in
all_tests row =
    rw (held_good row 8 (omega arith), offer_good row 8 (omega arith))
    (crossed (held_head row.held) (offer_head row.offer) (every (component_at row.held) 8) (every (media_at row.offer.said) 8)
    ∙ sym (ap₂ ◌&&◌ (held_five row.held (every (component_at row.held) 8)) (offer_five row.offer (every (media_at row.offer.said) 8))))

-- What is seen with a row of which all slots were gathered is what the definition sees.
pub gathered : (row : Row) (seen : Seen) → ended row seen (held_to row 8) (offer_to row 8) ≡ looked seen row
unfolding ended looked rates_of
gathered row seen =
    by_test (is_sound row)
    (λ e. rw (all_tests row, e, held_booked row (sound_held row e) 8 (omega arith)))
    (λ e. rw (all_tests row, e))

-- The loops over the slots of a row.
module _ (row : Row) where
  pub held_start : held_to row 0 ≡ no_tally
  unfolding held_to through
  held_start = refl

  pub held_next : (j : ℕ) (t s : Tally) → j < 8 → t ≡ held_to row j
      → s ≡ cond (ltb j row.held.count) (with_used t (held_at row.held j)) (with_unused t (held_at row.held j)) → s ≡ held_to row (j + 1)
  unfolding held_to held_slot
  held_next j t s h e f = f ∙ rw (e, through_next (held_slot row) no_tally j, lt-ltb j 8 h)

  pub offer_start : offer_to row 0 ≡ true
  unfolding offer_to through
  offer_start = refl

  pub offer_next : (j : ℕ) (good slot : Bool) → j < 8 → good ≡ offer_to row j
      → slot ≡ cond (ltb j row.offer.said.count) (media_in (said_at row.offer.said j)) (is_no_media (said_at row.offer.said j)) → (good && slot) ≡ offer_to row (j + 1)
  unfolding offer_to offer_slot media_at
  offer_next j good slot h e f = rw (e, f, through_next (offer_slot row) true j, lt-ltb j 8 h)

-- `with_row`: for each return the law that it follows.
module _ (row : Row) (seen : Seen) (held : Tally) (offer heads : Bool) (t : held ≡ held_to row 8) (o : offer ≡ offer_to row 8)
    (h : heads ≡ (held_head row.held && offer_head row.offer)) (rows : ℕ) (n : rows ≡ cond (ltb seen.rows 17) (seen.rows + 1) 17) where
  pub row_unsound : not ((held.good && offer) && heads) ≡ true → record { rows = rows; sound = 0; booked = seen.booked } ≡ looked seen row
  unfolding ended
  row_unsound b = rw (← gathered row seen, ← t, ← o, ← h, n, not-true ((held.good && offer) && heads) b)

  pub row_sound : (booked : Rates) → not ((held.good && offer) && heads) ≡ false → booked ≡ added seen.booked held.booked
      → record { rows = rows; sound = seen.sound; booked = booked } ≡ looked seen row
  unfolding ended
  row_sound booked b e = rw (← gathered row seen, ← t, ← o, ← h, n, e, not-false ((held.good && offer) && heads) b)
