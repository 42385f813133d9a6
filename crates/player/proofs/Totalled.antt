-- The totals, as a look at the book would see them. Assumes nothing.
use Prim.Native.Nat.{ℕ}
use mathlib.Core.Path.{◌≡◌}
use lib.IntN.{ℤ, nat_abs}
use mir.Syntax.{w64}
use mir.Val.{SFits, to_z, of_z}
use mir.ValLaws.{to_z-of_z}
use Rattle.player.specs.Steps.{sixteen}

-- two numbers that are passed on go through their bits
pub both_seen : (m n : ℕ) (up down : ℤ) → SFits w64 up → SFits w64 down → m ≡ nat_abs (to_z w64 (of_z w64 up)) → n ≡ nat_abs (to_z w64 (of_z w64 down))
    → sixteen m n ≡ sixteen (nat_abs up) (nat_abs down)
both_seen m n up down f g e k = rw (e, k, to_z-of_z w64 up f, to_z-of_z w64 down g)
