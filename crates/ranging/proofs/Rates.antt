-- A rate and the next, shifted: 0 where the rate is at most 8,589,934,590.
use Rattle.std.proofs.Common.{◌≡◌, ℕ, ◌+◌, ◌/◌, ◌%◌, ◌^◌, ◌≤◌, ◌&&◌, T, eqb, leb, ap, ◌∙◌, arith, le→leb, eqb→eq, leb→le}
use lib.Bits.{bit_or, or_shr}
use lib.Ieee.Fits.{and_i, and_l, and_r}
use Rattle.ranging.proofs.Tests.{same, is}
use Rattle.ranging.proofs.Blocks.{or_zero}

quot : (r : ℕ) → r ≤ 8589934590 → (r / 2 ^ 33 ≡ 0) × ((r + 1) % 2 ^ 64 / 2 ^ 33 ≡ 0)
quot r h = (omega (arith, h), omega (arith, h))

unquot : (r : ℕ) → r / 2 ^ 33 ≡ 0 → (r + 1) % 2 ^ 64 / 2 ^ 33 ≡ 0 → r ≤ 8589934590
unquot r p q = omega (arith, p, q)

pub rate_word : (r : ℕ) → eqb (bit_or r ((r + 1) % 2 ^ 64) / 2 ^ 33) 0 ≡ leb r 8589934590
rate_word r =
    ap (λ (x : ℕ). eqb x 0) (or_shr r ((r + 1) % 2 ^ 64) 33)
    ∙ or_zero (r / 2 ^ 33) ((r + 1) % 2 ^ 64 / 2 ^ 33)
    ∙ same (eqb (r / 2 ^ 33) 0 && eqb ((r + 1) % 2 ^ 64 / 2 ^ 33) 0) (leb r 8589934590)
    (λ h. le→leb r 8589934590 (unquot r
    (eqb→eq (r / 2 ^ 33) 0 (and_l (eqb (r / 2 ^ 33) 0) (eqb ((r + 1) % 2 ^ 64 / 2 ^ 33) 0) h))
    (eqb→eq ((r + 1) % 2 ^ 64 / 2 ^ 33) 0 (and_r (eqb (r / 2 ^ 33) 0) (eqb ((r + 1) % 2 ^ 64 / 2 ^ 33) 0) h))))
    (λ h. go (quot r (leb→le r 8589934590 h)))
  where
    go : (r / 2 ^ 33 ≡ 0) × ((r + 1) % 2 ^ 64 / 2 ^ 33 ≡ 0) → T (eqb (r / 2 ^ 33) 0 && eqb ((r + 1) % 2 ^ 64 / 2 ^ 33) 0)
    go (p, q) = and_i (eqb (r / 2 ^ 33) 0) (eqb ((r + 1) % 2 ^ 64 / 2 ^ 33) 0) (is (r / 2 ^ 33) 0 p) (is ((r + 1) % 2 ^ 64 / 2 ^ 33) 0 q)
