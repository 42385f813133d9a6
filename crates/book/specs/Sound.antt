-- Soundness of a row, for 19: "any lent row, named or not, holds a value outside its field's range". The ranges of a description stand in `sdp`,
-- those of what a session holds in `flow`.
use Rattle.std.specs.Prelude.{◌≤◌, ◌≡◌, Bool, ◌&&◌, ◌||◌, leb, eqb}
use Rattle.flow.specs.Range.{HeldRange, DescriptionsRange, held_in, media_at}
use Rattle.flow.specs.Slots.{every}
use Rattle.book.specs.declared.Offer.{Offer}
use Rattle.book.specs.declared.Row.{Row}
use Rattle.book.specs.Calls.{no_offer}

-- "origin 0 or 1"; "the offer where none is open"
unfoldable pub offer_in : Offer → Bool
offer_in o =
    leb o.present 1 && (leb o.origin 1 && (leb o.said.count 8
    && ((eqb o.present 1 || (eqb o.origin 0 && eqb o.said.count 0)) && every (media_at o.said) 8)))

unfoldable pub is_sound : Row → Bool
is_sound row = held_in row.held && offer_in row.offer

-- the same in words, for the theorem `sound_exactly`. "Ranges for 19". "An unused part of a row (components past the count, the offer where
-- none is open, count and kept class where nothing was derived since the last close) is all zeros"
pub record RowRange (row : Row) : Type 0 where
  pub held : HeldRange row.held
  pub present : row.offer.present ≤ 1
  pub origin : row.offer.origin ≤ 1
  pub said : DescriptionsRange row.offer.said
  pub none : row.offer.present ≡ 0 → row.offer ≡ no_offer
