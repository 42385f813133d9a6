-- What the player leaves in the room begins with the whole output. Assumes nothing.
use Prim.Native.Nat.{ℕ, ◌≤◌}
use native.Mathlib.Omega.{arith}
use mathlib.Core.Path.{◌≡◌}
use mathlib.Core.List.{List}
use lib.ListN.{length, take, drop, length-append}
use lib.Seq.{take-append_seam}
use borrow.Author.Tests.{le-leb}
use Rattle.evening.specs.Playing.{output, output_into}
use Rattle.player.specs.Steps.{most_room}
use Rattle.player.proofs.Fits.{output_fits}

pub whole_in : (s l x : List ℕ) (n : ℕ) → most_room ≡ length l → (n ≡ length (output s)) × (x ≡ output_into s l) → n ≤ length x
unfolding output_into
whole_in s l x n e h =
    rw (h.1, le-leb (length (output s)) (length l) (omega (arith, e, output_fits s)))
    (omega (arith, h.0, length-append (output s) (drop (length (output s)) l)))

pub whole_is : (s l x : List ℕ) (n : ℕ) → most_room ≡ length l → (n ≡ length (output s)) × (x ≡ output_into s l) → take n x ≡ output s
unfolding output_into
whole_is s l x n e h =
    rw (h.1, le-leb (length (output s)) (length l) (omega (arith, e, output_fits s)), h.0)
    (take-append_seam (output s) (drop (length (output s)) l))
