-- Of an input that has no more than `most` bytes nothing is to be said as of a longer one. Assumes nothing.
use Rattle.std.proofs.Common.{◌≡◌, ℕ, ◌≤◌, ◌<◌, List, Option, None, Some, IfSome, Result, Ok, Err, OnOk, length, arith}

pub not_longer : {A E : Type 0} (P : Type 0) (known : Option (List ℕ)) (most : ℕ) (new : List ℕ) → IfSome known (λ xs. (length xs ≤ most) × (new ≡ xs)) → (r : Result A E)
    → OnOk r (IfSome known (λ xs. most < length xs → P))
not_longer P known most new h (Err e) = tt
not_longer P None most new h (Ok x) = tt
not_longer P (Some xs) most new h (Ok x) = λ long. absurd (omega (arith, h.0, long))
