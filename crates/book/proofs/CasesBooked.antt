-- What is booked, and what the pool allows, by computation. Assumes nothing.
use mathlib.Core.Path.{◌≡◌, refl}
use mathlib.Core.Bool.{true, false}
use mathlib.Core.List.{[], ◌∷◌, map}
use lib.ListN.{replicate}
use lib.IntN.{pos, negsuc}
use Prim.Native.Nat.{ℕ}
use Rattle.flow.specs.declared.Component.{Component}
use Rattle.flow.specs.declared.Held.{Held}
use Rattle.flow.specs.declared.Rates.{Rates}
use Rattle.flow.specs.Session.{rate}
use Rattle.book.specs.Booking.{rates_of, no_rates, change_of, above}
use Rattle.book.specs.Totals.{booked_up_all, booked_down_all}
use Rattle.book.specs.CasesRows.{way, component, holding, one_component, seven, first_held, slow_held, large_held, removed_held, undescribed_held, held}
use Rattle.book.proofs.Computing.{computing}

abbrev rates : ℕ → ℕ → Rates
rates up down = record { up = rate up; down = rate down }

-- media 3 and RTCP 4 up, 10 and 20 down
abbrev small : Component
small = component 1 1 2 2 (way 4 0 3 9 1) (way 20 0 10 9 1)

abbrev eight : Held
eight = holding 1 2 8 (seven small small)

-- past the eighth slot there is none; what stands in an unused one is summed too, since it is all zeros in a sound row
abbrev nine : Held
nine = holding 1 2 8 (small ∷ seven small small)

-- "the sum of all media and RTCP rates"
pub eight_book : (rates_of eight ≡ rates 56 240) × (rates_of nine ≡ rates 56 240) × (rates_of (holding 1 2 0 (seven small small)) ≡ rates 56 240)
unfolding computing
eight_book = (refl, refl, refl)

-- .. of every component, of each kind by either transport, whatever its status and what is described of it; more than 32 bits hold
abbrev of_kind : ℕ → ℕ → Rates
of_kind transport kind = rates_of (holding 1 2 1 (one_component (component kind transport 2 2 (way 1 0 2 9 1) (way 4 0 8 9 1))))

pub kinds_book : map (λ transport. map (of_kind transport) (1 ∷ 2 ∷ 3 ∷ 4 ∷ 5 ∷ 6 ∷ [])) (1 ∷ 2 ∷ []) ≡ replicate 2 (replicate 6 (rates 3 12))
unfolding computing
kinds_book = refl

pub all_book : (rates_of removed_held ≡ rates 3 12) × (rates_of undescribed_held ≡ rates 3 12) × (rates_of large_held ≡ rates 8589934590 0)
unfolding computing
all_book = (refl, refl, refl)

-- ".. over all rows"
pub rows_book : (booked_up_all (held first_held ∷ held slow_held ∷ []) ≡ 126000) × (booked_down_all (held first_held ∷ held slow_held ∷ []) ≡ 134400)
unfolding computing
rows_book = (refl, refl)

pub none_book : (booked_up_all [] ≡ 0) × (booked_down_all [] ≡ 0) × (no_rates ≡ rates 0 0)
none_book = (refl, refl, refl)

-- "as signed numbers, new minus old"
pub changes_signed : (change_of (rates 10 20) (rates 1 5) ≡ record { up = pos 9; down = pos 15 })
    × (change_of (rates 1 5) (rates 10 20) ≡ record { up = negsuc 8; down = negsuc 14 })
    × (change_of (rates 0 8589934590) (rates 8589934590 1) ≡ record { up = negsuc 8589934589; down = pos 8589934589 })
changes_signed = (refl, refl, refl)

-- 16: "new booked total above the pool, up or down". Of 90 and 150 booked, this session has 30 and 40; the pool is 100 and 200
pub pool_above : (above (record { up = 100; down = 200 }) (rates 90 150) (rates 30 40) (rates 40 90) ≡ false)
    × (above (record { up = 100; down = 200 }) (rates 90 150) (rates 30 40) (rates 41 90) ≡ true)
    × (above (record { up = 100; down = 200 }) (rates 90 150) (rates 30 40) (rates 40 91) ≡ true)
    -- .. also where this one books less than before, or nothing; a pool of 0; totals of more than 32 bits
    × (above (record { up = 100; down = 200 }) (rates 131 150) (rates 30 40) (rates 0 0) ≡ true)
    × (above (record { up = 100; down = 200 }) (rates 90 241) (rates 30 40) (rates 0 0) ≡ true)
    × (above (record { up = 0; down = 0 }) (rates 30 40) (rates 30 40) (rates 0 0) ≡ false)
    × (above (record { up = 0; down = 0 }) (rates 30 40) (rates 30 40) (rates 1 0) ≡ true)
    × (above (record { up = 0; down = 0 }) (rates 30 40) (rates 30 40) (rates 0 1) ≡ true)
    × (above (record { up = 4294967295; down = 4294967295 }) (rates 4294967295 4294967295) (rates 0 0) (rates 1 0) ≡ true)
    × (above (record { up = 4294967295; down = 4294967295 }) (rates 4294967295 4294967295) (rates 0 0) (rates 0 1) ≡ true)
unfolding computing
pool_above = (refl, refl, refl, refl, refl, refl, refl, refl, refl, refl)
