-- How much a session whose rates are in range can book. Assumes nothing.
use Prim.Native.Nat.{ℕ, zero, suc, ◌+◌, ◌*◌, ◌≤◌, ◌<◌}
use native.Mathlib.Omega.{arith}
use mathlib.Core.Path.{◌≡◌}
use mathlib.Core.Bool.{true}
use Rattle.flow.specs.declared.Held.{Held}
use Rattle.flow.specs.Bearer.{booked_up, booked_down}
use Rattle.flow.specs.Session.{held_at}
use Rattle.flow.specs.Slots.{through}
use Rattle.book.specs.Booking.{up_to, down_to, rates_of}
use Rattle.flow.specs.Range.{held_rates}
use Rattle.flow.proofs.Ranged.{slot_rates}

-- A sum over the first slots, each of which adds at most so much.
sum_most : (f : ℕ → ℕ) (most n : ℕ) → ((j : ℕ) → j < n → f j ≤ most) → through (λ j sum. sum + f j) 0 n ≤ n * most
unfolding through
sum_most f most zero h = omega arith
sum_most f most (suc n) h = omega (arith, sum_most f most n (λ j k. h j (omega (arith, k))), h n (omega arith))

-- What a session whose rates are in range books is far below 2^40.
pub booked_small : (h : Held) → held_rates h ≡ true → ((rates_of h).up.0 ≤ 1099511627776) × ((rates_of h).down.0 ≤ 1099511627776)
unfolding rates_of up_to down_to
booked_small h e = (
  omega (arith, sum_most (λ j. booked_up (held_at h j)) 12884901885 8 (λ j k. (slot_rates h j e k).0)),
  omega (arith, sum_most (λ j. booked_down (held_at h j)) 12884901885 8 (λ j k. (slot_rates h j e k).1)),
)
