-- The heads of a component and of a media description, each four fields of 16 bits.
use Rattle.std.proofs.Common.{◌≡◌, ℕ, ◌+◌, ◌-◌, ◌%◌, ◌^◌, ◌<◌, true, ◌&&◌, eqb, leb, ap, ◌∙◌, ap₂, arith}
use lib.Bits.{bit_and, bit_or, and_zero_r}
use Rattle.sdp.specs.Range.{from1}
use Rattle.ranging.proofs.Blocks.{mask_blocks, high_clear}
use Rattle.ranging.proofs.Fours.{word, nest}
use Rattle.ranging.proofs.Lanes.{small, from_1, to, any}
use Rattle.ranging.proofs.FourLanes.{lanes}

-- the four top bits, 0x8000_8000_8000_8000
tops : (a b c d : ℕ) → a < 65536 → b < 65536 → c < 65536 → d < 65536 → eqb (bit_and (word a b c d) 9223512776490647552) 0 ≡ (small a && (small b && (small c && small d)))
tops a b c d ha hb hc hd =
    ap (λ (x : ℕ). eqb (bit_and x 9223512776490647552) 0) (nest a b c d)
    ∙ mask_blocks 16 a b c d 32768 32768 32768 32768 ha hb hc (omega arith) (omega arith) (omega arith)
    ∙ ap₂ ◌&&◌ (high_clear 1 15 a ha) (ap₂ ◌&&◌ (high_clear 1 15 b hb) (ap₂ ◌&&◌ (high_clear 1 15 c hc) (high_clear 1 15 d hd)))

-- all but the lowest, 0x8000_8000_8000_0000
three_tops : (a b c d : ℕ) → a < 65536 → b < 65536 → c < 65536 → d < 65536 → eqb (bit_and (word a b c d) 9223512776490614784) 0 ≡ (true && (small b && (small c && small d)))
three_tops a b c d ha hb hc hd =
    ap (λ (x : ℕ). eqb (bit_and x 9223512776490614784) 0) (nest a b c d)
    ∙ mask_blocks 16 a b c d 0 32768 32768 32768 ha hb hc (omega arith) (omega arith) (omega arith)
    ∙ ap₂ ◌&&◌ (ap (λ (x : ℕ). eqb x 0) (and_zero_r a)) (ap₂ ◌&&◌ (high_clear 1 15 b hb) (ap₂ ◌&&◌ (high_clear 1 15 c hc) (high_clear 1 15 d hd)))

-- the head less a number, with that number again
again : (head least : ℕ) → head < 2 ^ 64 → least < 2 ^ 64 → ((head + (2 ^ 64 - least)) % 2 ^ 64 + least) % 2 ^ 64 ≡ head
again head least h l = omega arith

less : (head least : ℕ) → (head + (2 ^ 64 - least)) % 2 ^ 64 < 2 ^ 64
less head least = omega arith

-- kind, transport, status, class
module _ (head k t s c : ℕ) (hh : head < 2 ^ 64) (hk : k < 65536) (ht : t < 65536) (hs : s < 65536) (e : head ≡ word k t s c) where
  abbrev c_low : ℕ
  c_low = (head + (2 ^ 64 - 65537)) % 2 ^ 64

  pub component_head : eqb (bit_or (bit_and c_low 9223512776490647552) (bit_and ((c_low + 9220698005248573434) % 2 ^ 64) 9223512776490647552)) 0 ≡ (from1 6 k && (from1 2 t && (leb s 4 && leb c 9)))
  component_head =
      lanes (from_1 6 (omega arith)) (from_1 2 (omega arith)) (to 4 (omega arith)) (to 9 (omega arith)) 9223512776490647552 tops
      c_low k t s c (less head 65537) hk ht hs (again head 65537 hh (omega arith) ∙ e)

-- port, kind, transport, direction: the port is not tested
module _ (head p k t d : ℕ) (hh : head < 2 ^ 64) (hp : p < 65536) (hk : k < 65536) (ht : t < 65536) (e : head ≡ word p k t d) where
  abbrev low : ℕ
  low = (head + (2 ^ 64 - 281479271743488)) % 2 ^ 64

  pub media_head : eqb (bit_or (bit_and low 9223512776490614784) (bit_and ((low + 9222386867993444352) % 2 ^ 64) 9223512776490614784)) 0 ≡ (from1 6 k && (from1 2 t && from1 4 d))
  media_head =
      lanes any (from_1 6 (omega arith)) (from_1 2 (omega arith)) (from_1 4 (omega arith)) 9223512776490614784 three_tops
      low p k t d (less head 281479271743488) hp hk ht (again head 281479271743488 hh (omega arith) ∙ e)
