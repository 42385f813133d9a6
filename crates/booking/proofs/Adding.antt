-- The loop of `rates_of`, and that of a session whose rates are in range it gives all that the session books. Assumes nothing.
use Rattle.std.proofs.Common.{◌≡◌, ℕ, zero, suc, ◌+◌, ◌*◌, ◌<◌, ◌≤◌, true, refl, ◌∙◌, arith}
use Rattle.flow.specs.declared.Held.{Held}
use Rattle.flow.specs.declared.Rates.{Rates}
use Rattle.flow.specs.Bearer.{booked_up, booked_down}
use Rattle.flow.specs.Session.{held_at, rate}
use Rattle.flow.specs.Slots.{through}
use Rattle.flow.specs.Range.{held_rates}
use Rattle.flow.proofs.Slots.{through_next}
use Rattle.flow.proofs.Ranged.{slot_rates}
use Rattle.book.specs.Booking.{up_to, down_to, rates_of, no_rates}
use Rattle.booking.specs.Sums.{more, with_component, sums_to, sums_of}

-- A sum that is still small, with a component's rates, is the plain sum.
pub plain : (sum whole media rtcp n : ℕ) → sum ≡ whole → whole ≤ n * 12884901885 → n ≤ 8 → media + rtcp ≤ 12884901885 → more sum media rtcp ≡ whole + (media + rtcp)
plain sum whole media rtcp n e h k r = omega (arith, e, h, k, r)

-- what the first n slots book
abbrev pub rates_to : Held → ℕ → Rates
rates_to held n = record { up = rate (up_to held n); down = rate (down_to held n) }

pub record Small (held : Held) (n : ℕ) : Type 0 where
  pub up : up_to held n ≤ n * 12884901885
  pub down : down_to held n ≤ n * 12884901885

module _ (held : Held) where
  pub sums_start : sums_to held 0 ≡ no_rates
  unfolding sums_to through
  sums_start = refl

  pub sums_next : (j : ℕ) (sum next : Rates) → sum ≡ sums_to held j → next ≡ with_component sum (held_at held j) → next ≡ sums_to held (j + 1)
  unfolding sums_to
  sums_next j sum next e f = f ∙ rw (e, through_next (λ i so. with_component so (held_at held i)) no_rates j)

  module _ (good : held_rates held ≡ true) where
    pub small : (n : ℕ) → n ≤ 8 → Small held n
    unfolding up_to down_to through
    small zero h = record { up = omega arith; down = omega arith }
    small (suc n) h = by (small n (omega (arith, h))) (slot_rates held n good (omega (arith, h))) where
      by : Small held n → (booked_up (held_at held n) ≤ 12884901885) × (booked_down (held_at held n) ≤ 12884901885) → Small held (suc n)
      by k r = record { up = omega (arith, k.up, r.0); down = omega (arith, k.down, r.1) }

    -- no sum begins again
    pub rates_next : (n : ℕ) → n < 8 → with_component (rates_to held n) (held_at held n) ≡ rates_to held (suc n)
    unfolding up_to down_to through
    rates_next n h =
        let k = small n (omega (arith, h)) in
        let r = slot_rates held n good h in
        rw (
          plain (up_to held n) (up_to held n) (held_at held n).up.media (held_at held n).up.rtcp.0 n refl k.up (omega (arith, h)) r.0,
          plain (down_to held n) (down_to held n) (held_at held n).down.media (held_at held n).down.rtcp.0 n refl k.down (omega (arith, h)) r.1,
        )

    sums_to_lem : (n : ℕ) → n ≤ 8 → sums_to held n ≡ rates_to held n
    unfolding sums_to through up_to down_to
    sums_to_lem zero h = refl
    sums_to_lem (suc n) h = rw (sums_to_lem n (omega (arith, h))) (rates_next n (omega (arith, h)))

    pub sums_all : sums_of held ≡ rates_of held
    unfolding rates_of
    sums_all = sums_to_lem 8 (omega arith)
