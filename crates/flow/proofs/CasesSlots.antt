-- The eight slots of a session: computed. Assumes nothing.
use mathlib.Core.Path.{◌≡◌, refl}
use mathlib.Core.List.{[], ◌∷◌, ◌++◌, map}
use mathlib.Core.Bool.{true, false}
use lib.Dec.{eqb, ltb}
use Rattle.flow.specs.Slots.{through, some, every, slots, up_to_eight}
use Rattle.flow.proofs.Computing.{computing}

-- "Components are numbered from 1 by position": three slots in turn; all eight
pub slots_in_turn : (through (λ j l. l ++ (j ∷ [])) [] 3 ≡ (0 ∷ 1 ∷ 2 ∷ [])) × (slots (λ j. j) ≡ (0 ∷ 1 ∷ 2 ∷ 3 ∷ 4 ∷ 5 ∷ 6 ∷ 7 ∷ []))
unfolding computing
slots_in_turn = (refl, refl)

-- of the first none, one, two and three slots: whether some is slot 1; whether every one is below slot 2
pub some_and_every : (map (some (eqb 1)) (0 ∷ 1 ∷ 2 ∷ 3 ∷ []) ≡ (false ∷ false ∷ true ∷ true ∷ []))
    × (map (every (λ j. ltb j 2)) (0 ∷ 1 ∷ 2 ∷ 3 ∷ []) ≡ (true ∷ true ∷ true ∷ false ∷ []))
unfolding computing
some_and_every = (refl, refl)

-- a count past eight counts as eight
pub counts_to_eight : map up_to_eight (0 ∷ 7 ∷ 8 ∷ 9 ∷ 10 ∷ []) ≡ (0 ∷ 7 ∷ 8 ∷ 8 ∷ 8 ∷ [])
unfolding computing
counts_to_eight = refl
