-- Exactly: a bearer is accepted exactly if it is within the authorisation. Assumes nothing.
use Prim.Native.Nat.{ℕ, ◌<◌}
use mathlib.Core.Path.{◌≡◌, refl, ap}
use mathlib.Core.Logic.{◌↔◌}
use mathlib.Core.Bool.{Bool, true, false, cond, ◌&&◌, false≢true}
use lib.Dec.{leb, eqb}
use native.Mathlib.Omega.{arith}
use borrow.Author.Tests.{leb-true, le-leb, eq-eqb, ne_eqb}
use Rattle.sdp.proofs.Tests.{and_left, and_right}
use Rattle.flow.specs.declared.Held.{Held}
use Rattle.flow.specs.declared.Asked.{Asked}
use Rattle.flow.specs.declared.Authorised.{Authorised}
use Rattle.flow.specs.Session.{live, held_at}
use Rattle.flow.specs.Bearer.{Within, rest, named, count_of, authorised_up, authorised_down, authorised_class, some_live, accepted, authorises, authorised}
use Rattle.flow.proofs.Tests.{by_test}
use Rattle.flow.proofs.Slots.{some_has, has_some}

-- 18, with zeros
abbrev pub outside : Authorised
outside = record { refusal = 18; class = 0; up = 0; down = 0 }

-- Where four tests pass together, each of them passes.
all_four : (a b c d : Bool) → (a && (b && (c && d))) ≡ true → (a ≡ true) × (b ≡ true) × (c ≡ true) × (d ≡ true)
all_four true true true d e = (refl, refl, refl, e)
all_four true true false d e = absurd (false≢true e)
all_four true false c d e = absurd (false≢true e)
all_four false b c d e = absurd (false≢true e)

module _ (held : Held) (asked : Asked) where
  -- whether the component at slot j is named and live
  abbrev goes : ℕ → Bool
  goes j = named asked.set j && live (held_at held j)

  -- What the definition accepts is within the authorisation.
  accepted_within : accepted held asked ≡ true → Within held asked
  unfolding accepted some_live
  accepted_within e =
      record {
        live = (
          found.0,
          found.1,
          and_left (named asked.set found.0) (live (held_at held found.0)) found.2,
          and_right (named asked.set found.0) (live (held_at held found.0)) found.2,
        );
        class = leb-true (authorised_class held asked.set) asked.class four.1;
        up = leb-true asked.up (authorised_up held asked.set) four.2;
        down = leb-true asked.down (authorised_down held asked.set) four.3;
      } where
        four : (some_live held asked.set ≡ true)
            × (leb (authorised_class held asked.set) asked.class ≡ true)
            × (leb asked.up (authorised_up held asked.set) ≡ true)
            × (leb asked.down (authorised_down held asked.set) ≡ true)
        four =
            all_four (some_live held asked.set) (leb (authorised_class held asked.set) asked.class) (leb asked.up (authorised_up held asked.set))
            (leb asked.down (authorised_down held asked.set)) e

        found : (j : ℕ) × (j < count_of held) × (goes j ≡ true)
        found = some_has goes (count_of held) four.0

  -- What is within the authorisation the definition accepts.
  within_accepted : Within held asked → accepted held asked ≡ true
  unfolding accepted some_live
  within_accepted w =
      rw (
        has_some goes (count_of held) w.live.0 w.live.1 (rw (w.live.2, w.live.3)),
        le-leb (authorised_class held asked.set) asked.class w.class,
        le-leb asked.up (authorised_up held asked.set) w.up,
        le-leb asked.down (authorised_down held asked.set) w.down,
      )

  -- A bearer whose set is empty is refused with 18 and zeros.
  pub empty_outside : asked.set ≡ 0 → authorised held asked ≡ outside
  unfolding authorised
  empty_outside e = rw (eq-eqb asked.set 0 e)

  -- A bearer whose set names a component past the count is refused with 18 and zeros.
  pub past_outside : (rest asked.set (count_of held) ≡ 0 → ⊥) → authorised held asked ≡ outside
  unfolding authorised
  past_outside h =
      by_test (eqb asked.set 0) (λ e. rw e) (λ e. rw (e, ne_eqb (rest asked.set (count_of held)) 0 h))

  module _ (some : asked.set ≡ 0 → ⊥) (counted : rest asked.set (count_of held) ≡ 0) where
    -- Any other bearer is judged by what the definition accepts.
    judged : authorised held asked ≡ cond (accepted held asked) (authorises held asked.set 0) (authorises held asked.set 17)
    unfolding authorised
    judged = rw (ne_eqb asked.set 0 some, eq-eqb (rest asked.set (count_of held)) 0 counted)

    -- A bearer within the authorisation is accepted, with what is authorised.
    pub within_authorised : Within held asked → authorised held asked ≡ authorises held asked.set 0
    within_authorised w = rw (judged, within_accepted w)

    -- A bearer that is not within the authorisation is refused with 17, with what is authorised.
    pub beyond_authorised : (Within held asked → ⊥) → authorised held asked ≡ authorises held asked.set 17
    beyond_authorised h =
        by_test (accepted held asked) (λ e. absurd (h (accepted_within e))) (λ e. rw (judged, e))

    -- A bearer that is accepted is within the authorisation.
    pub authorised_within : (authorised held asked).refusal ≡ 0 → Within held asked
    authorised_within h =
        by_test (accepted held asked) accepted_within (λ e. absurd (omega (arith, rw (judged, e) at h)))

    -- "Accepted exactly if": the refusal is 0 exactly if the bearer is within the authorisation.
    pub authorised_exactly : ((authorised held asked).refusal ≡ 0) ↔ Within held asked
    authorised_exactly = (authorised_within, λ w. ap (λ a. a.refusal) (within_authorised w))
