-- What a look gathers of one row, slot by slot. What the calls promise cites none of it: `gathered` says that it is `looked`.
use Rattle.std.specs.Prelude.{ℕ, ◌+◌, Bool, true, cond, ◌&&◌, ◌||◌, ◌==◌, nat_le, nat_lt}
use Rattle.flow.specs.declared.Component.{Component}
use Rattle.flow.specs.declared.Held.{Held}
use Rattle.flow.specs.Session.{held_at}
use Rattle.flow.specs.Range.{is_class, component_in, is_no_component, media_at}
use Rattle.flow.specs.Slots.{through}
use Rattle.book.specs.declared.Offer.{Offer}
use Rattle.book.specs.declared.Row.{Row}
use Rattle.book.specs.declared.Seen.{Seen}
use Rattle.book.specs.Booking.{no_rates}
use Rattle.book.specs.Look.{added}
use Rattle.booking.specs.declared.slots.Tally.{Tally}
use Rattle.booking.specs.Sums.{with_component}

abbrev pub no_tally : Tally
no_tally = record { good = true; booked = no_rates }

-- with a used slot, and with an unused one
abbrev pub with_used : Tally → Component → Tally
with_used s c = record { good = s.good && component_in c; booked = with_component s.booked c }

abbrev pub with_unused : Tally → Component → Tally
with_unused s c = record { good = s.good && is_no_component c; booked = s.booked }

unfoldable pub held_slot : Row → ℕ → Tally → Tally
held_slot row j s =
    cond (nat_lt j 8)
    (cond (nat_lt j row.held.count) (with_used s (held_at row.held j)) (with_unused s (held_at row.held j)))
    s

unfoldable pub offer_slot : Row → ℕ → Bool → Bool
offer_slot row j good = cond (nat_lt j 8) (good && media_at row.offer.said j) good

-- of the first n slots
unfoldable pub held_to : Row → ℕ → Tally
held_to row = through (held_slot row) no_tally

unfoldable pub offer_to : Row → ℕ → Bool
offer_to row = through (offer_slot row) true

-- the fields beside the slots
abbrev pub held_head : Held → Bool
held_head h =
    nat_le h.completed 1 && (is_class h.kept && (nat_le h.count 8 && (h.completed == 1 || (h.kept == 0 && h.count == 0))))

abbrev pub offer_head : Offer → Bool
offer_head o =
    nat_le o.present 1 && (nat_le o.origin 1 && (nat_le o.said.count 8 && (o.present == 1 || (o.origin == 0 && o.said.count == 0))))

-- what is seen with the row
unfoldable pub ended : Row → Seen → Tally → Bool → Seen
ended row seen s media =
    cond ((s.good && media) && (held_head row.held && offer_head row.offer))
    (record { rows = cond (nat_lt seen.rows 17) (seen.rows + 1) 17; sound = seen.sound; booked = added seen.booked s.booked })
    (record { rows = cond (nat_lt seen.rows 17) (seen.rows + 1) 17; sound = 0; booked = seen.booked })
