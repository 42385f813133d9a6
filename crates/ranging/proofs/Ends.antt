-- The end of a way: a port and whether it is described, in one word.
use Rattle.std.proofs.Common.{◌≡◌, ℕ, ◌+◌, ◌*◌, ◌%◌, ◌^◌, ◌<◌, ◌≤◌, Bool, ◌&&◌, T, eqb, ltb, leb, ap, ◌∙◌, ap₂, arith, le→leb, ltb→lt, lt→ltb, leb→le}
use lib.Bits.{bit_and, bit_or}
use lib.Ieee.Fits.{and_i, and_l, and_r}
use Rattle.ranging.proofs.Tests.{same, given}
use Rattle.ranging.proofs.Blocks.{or_zero, mask_block, high_clear}
use Rattle.ranging.proofs.Fours.{nest_32}

-- under the mask 0xffff_fffe_ffff_0000
clear : (p d : ℕ) → p < 4294967296 → d < 4294967296 → eqb (bit_and (p + 4294967296 * d) 18446744069414518784) 0 ≡ (ltb p 65536 && ltb d 2)
clear p d hp hd =
    ap (λ (x : ℕ). eqb (bit_and x 18446744069414518784) 0) (nest_32 p d)
    ∙ mask_block 32 d 4294967294 p 4294901760 hp (omega arith)
    ∙ ap₂ ◌&&◌ (high_clear 16 16 p hp) (high_clear 31 1 d hd)

module _ (t p d : ℕ) (ht : t < 2) (hp : p < 4294967296) (hd : d < 4294967296) where
  -- a good end and t have no carry past its port
  next : T (ltb p 65536 && ltb d 2) → eqb (bit_and ((p + 4294967296 * d + t) % 2 ^ 64) 18446744069414518784) 0 ≡ (ltb (p + t) 65536 && ltb d 2)
  next h = go (ltb→lt p 65536 (and_l (ltb p 65536) (ltb d 2) h)) (ltb→lt d 2 (and_r (ltb p 65536) (ltb d 2) h))
    where
      whole : p < 65536 → d < 2 → (p + 4294967296 * d + t) % 2 ^ 64 ≡ p + t + 4294967296 * d
      whole l m = omega (arith, l, m, ht)

      go : p < 65536 → d < 2 → eqb (bit_and ((p + 4294967296 * d + t) % 2 ^ 64) 18446744069414518784) 0 ≡ (ltb (p + t) 65536 && ltb d 2)
      go l m = ap (λ (x : ℕ). eqb (bit_and x 18446744069414518784) 0) (whole l m) ∙ clear (p + t) d (omega (arith, l, ht)) hd

  ends : ((ltb p 65536 && ltb d 2) && (ltb (p + t) 65536 && ltb d 2)) ≡ (leb (p + t) 65535 && leb d 1)
  ends =
      same ((ltb p 65536 && ltb d 2) && (ltb (p + t) 65536 && ltb d 2)) (leb (p + t) 65535 && leb d 1)
      (λ h. out (and_r (ltb p 65536 && ltb d 2) (ltb (p + t) 65536 && ltb d 2) h))
      (λ h. into (leb→le (p + t) 65535 (and_l (leb (p + t) 65535) (leb d 1) h)) (leb→le d 1 (and_r (leb (p + t) 65535) (leb d 1) h)))
    where
      out : T (ltb (p + t) 65536 && ltb d 2) → T (leb (p + t) 65535 && leb d 1)
      out h =
          and_i (leb (p + t) 65535) (leb d 1) (le→leb (p + t) 65535 (omega (arith, ltb→lt (p + t) 65536 (and_l (ltb (p + t) 65536) (ltb d 2) h))))
          (le→leb d 1 (omega (arith, ltb→lt d 2 (and_r (ltb (p + t) 65536) (ltb d 2) h))))

      into : p + t ≤ 65535 → d ≤ 1 → T ((ltb p 65536 && ltb d 2) && (ltb (p + t) 65536 && ltb d 2))
      into l m =
          and_i (ltb p 65536 && ltb d 2) (ltb (p + t) 65536 && ltb d 2)
          (and_i (ltb p 65536) (ltb d 2) (lt→ltb p 65536 (omega (arith, l))) (lt→ltb d 2 (omega (arith, m))))
          (and_i (ltb (p + t) 65536) (ltb d 2) (lt→ltb (p + t) 65536 (omega (arith, l))) (lt→ltb d 2 (omega (arith, m))))

  pub end_word : eqb (bit_or (bit_and (p + 4294967296 * d) 18446744069414518784) (bit_and ((p + 4294967296 * d + t) % 2 ^ 64) 18446744069414518784)) 0
      ≡ (leb (p + t) 65535 && leb d 1)
  end_word =
      or_zero (bit_and (p + 4294967296 * d) 18446744069414518784) (bit_and ((p + 4294967296 * d + t) % 2 ^ 64) 18446744069414518784)
      ∙ ap (λ (x : Bool). x && eqb (bit_and ((p + 4294967296 * d + t) % 2 ^ 64) 18446744069414518784) 0) (clear p d hp hd)
      ∙ given (ltb p 65536 && ltb d 2) (eqb (bit_and ((p + 4294967296 * d + t) % 2 ^ 64) 18446744069414518784) 0) (ltb (p + t) 65536 && ltb d 2) next
      ∙ ends
