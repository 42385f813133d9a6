-- The length of a large array, over a variable: to compute it would take the checker too deep. Assumes nothing.
use Prim.Native.Nat.{ℕ}
use mathlib.Core.Path.{◌≡◌, sym}
use lib.ListN.{length, replicate, length-replicate}

pub long : (n : ℕ) → n ≡ length (replicate {A = ℕ} n 0)
long n = sym (length-replicate {A = ℕ} n 0)
