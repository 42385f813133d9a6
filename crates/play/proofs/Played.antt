-- What was written, once the bytes are known, and what was read: the input's first m. Assumes nothing.
use Rattle.std.proofs.Common.{◌≡◌, ℕ, List, None, Some, IfSome, Result, Ok, Err, OnOk, take, subst}
use Rattle.std.specs.Prelude.{Option}
use Rattle.std.specs.Io.KnownBytes.{Appends}
use Rattle.evening.specs.Playing.{output}

module _ {A E : Type 0} (a b : Option (List ℕ)) where
  pub played_first : (r : Result A E) (known : Option (List ℕ)) (m : ℕ) (file : List ℕ) → IfSome known (λ xs. file ≡ take m xs)
      → OnOk r (Appends a b (output file)) → OnOk r (IfSome known (λ xs. Appends a b (output (take m xs))))
  played_first (Err x) known m file read p = tt
  played_first (Ok x) None m file read p = tt
  played_first (Ok x) (Some xs) m file read p = subst (λ l. Appends a b (output l)) read p
