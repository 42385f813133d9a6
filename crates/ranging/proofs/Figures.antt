-- The port and the flags of a media description.
use Rattle.std.proofs.Common.{◌≡◌, ℕ, ◌+◌, ◌*◌, ◌/◌, ◌<◌, ◌≤◌, ◌&&◌, eqb, leb, ap, ◌∙◌, ap₂, arith, le→leb, eqb→eq, leb→le}
use lib.Bits.{bit_and}
use lib.Dec.{leb-suc-suc}
use Rattle.ranging.proofs.Tests.{same, is}
use Rattle.ranging.proofs.Blocks.{mask_blocks, high_clear}
use Rattle.ranging.proofs.Fours.{nest_8}

pub port_word : (x : ℕ) → eqb (x / 65536) 0 ≡ leb x 65535
port_word x =
    same (eqb (x / 65536) 0) (leb x 65535) (λ h. le→leb x 65535 (into (eqb→eq (x / 65536) 0 h)))
    (λ h. is (x / 65536) 0 (back (leb→le x 65535 h)))
  where
    into : x / 65536 ≡ 0 → x ≤ 65535
    into e = omega (arith, e)

    back : x ≤ 65535 → x / 65536 ≡ 0
    back l = omega (arith, l)

-- under the mask 0xfefe_fefe
pub flags_word : (a b c d : ℕ) → a < 256 → b < 256 → c < 256 → d < 256
    → eqb (bit_and (a + 256 * b + 65536 * c + 16777216 * d) 4278124286) 0 ≡ (leb a 1 && (leb b 1 && (leb c 1 && leb d 1)))
flags_word a b c d ha hb hc hd =
    ap (λ (x : ℕ). eqb (bit_and x 4278124286) 0) (nest_8 a b c d)
    ∙ mask_blocks 8 a b c d 254 254 254 254 ha hb hc (omega arith) (omega arith) (omega arith)
    ∙ ap₂ ◌&&◌ (flag a ha) (ap₂ ◌&&◌ (flag b hb) (ap₂ ◌&&◌ (flag c hc) (flag d hd)))
  where
    flag : (x : ℕ) → x < 256 → eqb (bit_and x 254) 0 ≡ leb x 1
    flag x h = high_clear 7 1 x h ∙ leb-suc-suc x 1
