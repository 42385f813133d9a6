-- "Components are numbered from 1 by position": the eight slots of a session, one after the other, from 0.
use Rattle.std.specs.Prelude.{ℕ, zero, suc, List, [], ◌∷◌, Bool, true, false, cond, ◌&&◌, ◌||◌, ltb}

-- the first n slots taken in turn, each into what those before it gave
unfoldable pub through : {A : Type 0} → (ℕ → A → A) → A → ℕ → A
through f start zero = start
through f start (suc n) = f n (through f start n)

-- whether one of the first n slots passes the test
unfoldable pub some : (ℕ → Bool) → ℕ → Bool
some p = through (λ j found. found || p j) false

-- whether every one of the first n slots passes the test
unfoldable pub every : (ℕ → Bool) → ℕ → Bool
every p = through (λ j so_far. so_far && p j) true

-- all eight
unfoldable pub slots : {A : Type 0} → (ℕ → A) → List A
slots f = f 0 ∷ f 1 ∷ f 2 ∷ f 3 ∷ f 4 ∷ f 5 ∷ f 6 ∷ f 7 ∷ []

-- a count past eight counts as eight
unfoldable pub up_to_eight : ℕ → ℕ
up_to_eight count = cond (ltb 8 count) 8 count
