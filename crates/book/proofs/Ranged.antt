-- A row is sound exactly if it lies in the ranges of document 01. Assumes nothing.
use Prim.Native.Nat.{ℕ, zero, suc}
use native.Mathlib.Omega.{arith}
use mathlib.Core.Path.{◌≡◌, refl, ap₂}
use mathlib.Core.Logic.{◌↔◌}
use mathlib.Core.List.{List, [], ◌∷◌}
use mathlib.Core.Bool.{true, ◌&&◌, ◌||◌}
use lib.ListN.{length, get_or, replicate}
use lib.Dec.{leb, eqb}
use borrow.Author.Tests.{leb-true, le-leb, eqb-true, eqb-false}
use Rattle.sdp.specs.Section.{no_media}
use Rattle.sdp.proofs.Tests.{and_both, both}
use Rattle.flow.specs.Range.{DescriptionsRange, held_rates, held_in, media_at}
use Rattle.flow.specs.Slots.{every}
use Rattle.flow.proofs.InRange.{held_exactly, said_exactly, said_sound}
use Rattle.flow.proofs.Ranged.{held_rates_lem, held_sound}
use Rattle.flow.proofs.Tests.{by_test}
use Rattle.book.specs.declared.Offer.{Offer}
use Rattle.book.specs.declared.Row.{Row}
use Rattle.book.specs.Calls.{no_offer}
use Rattle.book.specs.Sound.{offer_in, is_sound, RowRange}
use Rattle.book.proofs.NotBarred.{sound_held, sound_offer}

-- A list of so many that has the same everywhere is so many of the same.
all_alike : {A : Type 0} (l : List A) (n : ℕ) (a : A) → length l ≡ n → ((j : ℕ) → get_or l j a ≡ a) → l ≡ replicate n a
all_alike [] zero a e h = refl
all_alike [] (suc n) a e h = absurd (omega (arith, e))
all_alike (x ∷ l) zero a e h = absurd (omega (arith, e))
all_alike (x ∷ l) (suc n) a e h = ap₂ ◌∷◌ (h 0) (all_alike l n a (omega (arith, e)) (λ j. h (suc j)))

-- An offer that is not open, by its test.
unopened : (o : Offer) → (eqb o.present 1 || (eqb o.origin 0 && eqb o.said.count 0)) ≡ true → DescriptionsRange o.said → o.present ≡ 0 → o ≡ no_offer
unopened o e r z =
    let k = both (eqb o.origin 0) (eqb o.said.count 0) (rw z at e) in
    let c = eqb-true o.said.count 0 k.1 in
    let l = all_alike o.said.media 8 no_media r.eight (λ j. r.unused j (omega (arith, c))) in
    λ i. record { present = z i; origin = eqb-true o.origin 0 k.0 i; said = record { count = c i; media = l i } }

sound_range : (row : Row) → length row.held.components ≡ 8 → length row.offer.said.media ≡ 8 → is_sound row ≡ true → RowRange row
unfolding offer_in
sound_range row n m e =
    let o = row.offer in
    let a = both (leb o.present 1) _ (sound_offer row e) in
    let b = both (leb o.origin 1) _ a.1 in
    let c = both (leb o.said.count 8) _ b.1 in
    let d = both (eqb o.present 1 || (eqb o.origin 0 && eqb o.said.count 0)) (every (media_at o.said) 8) c.1 in
    let said = (said_exactly o.said m).0 (and_both (leb o.said.count 8) (every (media_at o.said) 8) c.0 d.1) in
    record {
      held = (held_exactly row.held n).0 (sound_held row e);
      present = leb-true o.present 1 a.0;
      origin = leb-true o.origin 1 b.0;
      said = said;
      none = unopened o d.0 said;
    }

module _ (row : Row) (r : RowRange row) where
  opened : (eqb row.offer.present 1 || (eqb row.offer.origin 0 && eqb row.offer.said.count 0)) ≡ true
  opened =
      by_test (eqb row.offer.present 1) (λ e. rw e)
      (λ e. rw (r.none (omega (arith, r.present, eqb-false row.offer.present 1 e))))

  offer_sound : offer_in row.offer ≡ true
  unfolding offer_in
  offer_sound =
      let s = both (leb row.offer.said.count 8) (every (media_at row.offer.said) 8) (said_sound row.offer.said r.said) in
      rw (le-leb row.offer.present 1 r.present, le-leb row.offer.origin 1 r.origin, s.0, opened, s.1)

  -- A row in its ranges is sound.
  pub range_sound : is_sound row ≡ true
  unfolding is_sound
  range_sound = and_both (held_in row.held) (offer_in row.offer) (held_sound row.held r.held) offer_sound

  -- So its rates are in range.
  pub range_rates : held_rates row.held ≡ true
  range_rates = held_rates_lem row.held (sound_held row range_sound)

-- 19, exactly: a row, of eight slots each, is sound exactly if every field lies in its range and every unused part is all zeros.
pub sound_exactly : (row : Row) → length row.held.components ≡ 8 → length row.offer.said.media ≡ 8 → (is_sound row ≡ true) ↔ RowRange row
sound_exactly row n m = (sound_range row n m, range_sound row)
