-- 19 field by field, by computation. Assumes nothing.
use mathlib.Core.Path.{◌≡◌, refl}
use mathlib.Core.List.{[], ◌∷◌, map}
use Rattle.book.specs.CasesSound.{Bound, cancel_beside, good_beside, bad_beside, with_open, with_held, port9, held_bounds, held_anyhow, held_unused, offer_bounds, offer_unused}
use Rattle.book.specs.CasesRows.{offering, seven, nothing_held, with_offer}
use Rattle.book.proofs.Computing.{computing}

-- What a session holds: with its last good value each field is passed, with the first bad one it is 19.
pub held_good : map good_beside held_bounds ≡ map (λ (b : Bound). 12) held_bounds
unfolding computing
held_good = refl

pub held_bad : map bad_beside held_bounds ≡ map (λ (b : Bound). 19) held_bounds
unfolding computing
held_bad = refl

-- No sense across fields.
pub held_anyhow_lem : map cancel_beside held_anyhow ≡ 12 ∷ 12 ∷ 12 ∷ 12 ∷ []
unfolding computing
held_anyhow_lem = refl

-- Its unused parts.
pub held_unused_lem : (map good_beside held_unused ≡ map (λ (b : Bound). 12) held_unused) × (map bad_beside held_unused ≡ map (λ (b : Bound). 19) held_unused)
unfolding computing
held_unused_lem = (refl, refl)

-- The open offer.
pub offer_good : map good_beside offer_bounds ≡ map (λ (b : Bound). 12) offer_bounds
unfolding computing
offer_good = refl

pub offer_bad : map bad_beside offer_bounds ≡ map (λ (b : Bound). 19) offer_bounds
unfolding computing
offer_bad = refl

-- Its unused parts.
pub offer_unused_lem : (map good_beside offer_unused ≡ map (λ (b : Bound). 12) offer_unused) × (map bad_beside offer_unused ≡ map (λ (b : Bound). 19) offer_unused)
unfolding computing
offer_unused_lem = (refl, refl)

-- The same of what is held below an open offer, and of an open offer over what is held.
pub held_below : (map (λ b. good_beside (with_open b)) held_bounds ≡ map (λ (b : Bound). 12) held_bounds)
    × (map (λ b. bad_beside (with_open b)) held_bounds ≡ map (λ (b : Bound). 19) held_bounds)
    × (map (λ b. bad_beside (with_open b)) held_unused ≡ map (λ (b : Bound). 19) held_unused)
unfolding computing
held_below = (refl, refl, refl)

pub offer_over : (map (λ b. good_beside (with_held b)) offer_bounds ≡ map (λ (b : Bound). 12) offer_bounds)
    × (map (λ b. bad_beside (with_held b)) offer_bounds ≡ map (λ (b : Bound). 19) offer_bounds)
    × (map (λ b. bad_beside (with_held b)) offer_unused ≡ map (λ (b : Bound). 19) offer_unused)
unfolding computing
offer_over = (refl, refl, refl)

-- A row has eight slots: a ninth is not looked at.
pub no_ninth : cancel_beside (with_offer nothing_held.held (offering 1 0 8 (port9 ∷ seven port9 port9))) ≡ 12
unfolding computing
no_ninth = refl
