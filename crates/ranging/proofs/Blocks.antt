-- A word in blocks of k bits: it is 0, and 0 under a mask, where each block is.
use Rattle.std.proofs.Common.{◌≡◌, ℕ, zero, suc, ◌+◌, ◌-◌, ◌*◌, ◌/◌, ◌^◌, ◌<◌, ◌≤◌, Bool, ◌&&◌, T, eqb, ltb, refl, ap, ◌∙◌, ap₂, mod-eq_of_lt, div-lt_iff_lt-mul, arith, eqb→eq, ltb→lt, lt→ltb, pow_pos, pow-add}
use native.Mathlib.Nat.{div-eq_of_lt}
use lib.Bits.{bit_and, bit_or, and_block, and_high, and_le_l, and_le_r, or_add_and}
use lib.Ieee.Fits.{and_i, and_l, and_r}
use Rattle.ranging.proofs.Tests.{same, is}

-- ---- words that are 0 where a test is good
pub or_none : (a b : ℕ) → bit_or a b ≡ 0 → (a ≡ 0) × (b ≡ 0)
or_none a b e = go (bit_or a b) (bit_and a b) e (or_add_and a b) (and_le_l a b) (and_le_r a b)
  where
    go : (x y : ℕ) → x ≡ 0 → x + y ≡ a + b → y ≤ a → y ≤ b → (a ≡ 0) × (b ≡ 0)
    go x y e s l r = (omega (arith, e, s, l, r), omega (arith, e, s, l, r))

-- two joined are 0 where both are
pub or_zero : (a b : ℕ) → eqb (bit_or a b) 0 ≡ (eqb a 0 && eqb b 0)
or_zero a b =
    same (eqb (bit_or a b) 0) (eqb a 0 && eqb b 0) (λ h. apart (or_none a b (eqb→eq (bit_or a b) 0 h)))
    (λ h. is (bit_or a b) 0 (ap₂ bit_or (eqb→eq a 0 (and_l (eqb a 0) (eqb b 0) h)) (eqb→eq b 0 (and_r (eqb a 0) (eqb b 0) h))))
  where
    apart : (a ≡ 0) × (b ≡ 0) → T (eqb a 0 && eqb b 0)
    apart (p, q) = and_i (eqb a 0) (eqb b 0) (is a 0 p) (is b 0 q)

-- ---- blocks
none_of : (n a : ℕ) → 0 < n → a * n ≡ 0 → a ≡ 0
none_of n zero h e = refl
none_of n (suc a) h e = omega (arith, h, e)

pub zero_block : (k a r : ℕ) → eqb (a * 2 ^ k + r) 0 ≡ (eqb r 0 && eqb a 0)
zero_block k a r =
    same (eqb (a * 2 ^ k + r) 0) (eqb r 0 && eqb a 0)
    (λ h. and_i (eqb r 0) (eqb a 0) (is r 0 (rest (eqb→eq (a * 2 ^ k + r) 0 h))) (is a 0 (none_of (2 ^ k) a (pow_pos k) (first (eqb→eq (a * 2 ^ k + r) 0 h)))))
    (λ h. is (a * 2 ^ k + r) 0 (back (eqb→eq r 0 (and_l (eqb r 0) (eqb a 0) h)) (eqb→eq a 0 (and_r (eqb r 0) (eqb a 0) h))))
  where
    rest : a * 2 ^ k + r ≡ 0 → r ≡ 0
    rest e = omega (arith, e)

    first : a * 2 ^ k + r ≡ 0 → a * 2 ^ k ≡ 0
    first e = omega (arith, e)

    back : r ≡ 0 → a ≡ 0 → a * 2 ^ k + r ≡ 0
    back p q = rw (p, q) (omega arith)

pub mask_block : (k a b r s : ℕ) → r < 2 ^ k → s < 2 ^ k → eqb (bit_and (a * 2 ^ k + r) (b * 2 ^ k + s)) 0 ≡ (eqb (bit_and r s) 0 && eqb (bit_and a b) 0)
mask_block k a b r s hr hs = ap (λ (x : ℕ). eqb x 0) (and_block k a b r s hr hs) ∙ zero_block k (bit_and a b) (bit_and r s)

-- four blocks
pub zero_blocks : (k a b c d : ℕ) → eqb (((d * 2 ^ k + c) * 2 ^ k + b) * 2 ^ k + a) 0 ≡ (eqb a 0 && (eqb b 0 && (eqb c 0 && eqb d 0)))
zero_blocks k a b c d =
    zero_block k ((d * 2 ^ k + c) * 2 ^ k + b) a
    ∙ ap (λ (x : Bool). eqb a 0 && x) (zero_block k (d * 2 ^ k + c) b ∙ ap (λ (x : Bool). eqb b 0 && x) (zero_block k d c))

pub mask_blocks : (k a b c d m n o p : ℕ) → a < 2 ^ k → b < 2 ^ k → c < 2 ^ k → m < 2 ^ k → n < 2 ^ k → o < 2 ^ k
    → eqb (bit_and (((d * 2 ^ k + c) * 2 ^ k + b) * 2 ^ k + a) (((p * 2 ^ k + o) * 2 ^ k + n) * 2 ^ k + m)) 0
    ≡ (eqb (bit_and a m) 0 && (eqb (bit_and b n) 0 && (eqb (bit_and c o) 0 && eqb (bit_and d p) 0)))
mask_blocks k a b c d m n o p ha hb hc hm hn ho =
    mask_block k ((d * 2 ^ k + c) * 2 ^ k + b) ((p * 2 ^ k + o) * 2 ^ k + n) a m ha hm
    ∙ ap (λ (x : Bool). eqb (bit_and a m) 0 && x)
    (mask_block k (d * 2 ^ k + c) (p * 2 ^ k + o) b n hb hn ∙ ap (λ (x : Bool). eqb (bit_and b n) 0 && x) (mask_block k d p c o hc ho))

-- the j highest of j + k bits are clear where the number is below 2 ^ k
pub high_clear : (j k x : ℕ) → x < 2 ^ (j + k) → eqb (bit_and x (2 ^ (j + k) - 2 ^ k)) 0 ≡ ltb x (2 ^ k)
high_clear j k x h =
    ap (λ (y : ℕ). eqb y 0) (and_high x j k ∙ ap (λ (y : ℕ). y * 2 ^ k) (mod-eq_of_lt part))
    ∙ same (eqb (x / 2 ^ k * 2 ^ k) 0) (ltb x (2 ^ k))
    (λ t. lt→ltb x (2 ^ k) (below (none_of (2 ^ k) (x / 2 ^ k) (pow_pos k) (eqb→eq (x / 2 ^ k * 2 ^ k) 0 t))))
    (λ t. is (x / 2 ^ k * 2 ^ k) 0 (above (ltb→lt x (2 ^ k) t)))
  where
    part : x / 2 ^ k < 2 ^ j
    part = (div-lt_iff_lt-mul (pow_pos k)).1 (rw (← (pow-add 2 j k)) h)

    below : x / 2 ^ k ≡ 0 → x < 2 ^ k
    below e = omega (arith, (div-lt_iff_lt-mul {k = 2 ^ k} {x = x} {y = 1} (pow_pos k)).0 (omega (arith, e)))

    above : x < 2 ^ k → x / 2 ^ k * 2 ^ k ≡ 0
    above l = rw (div-eq_of_lt l) (omega arith)
