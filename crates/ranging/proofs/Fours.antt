-- Four fields of 16 bits in one word: its parts, and sums and differences of words.
use Rattle.std.proofs.Common.{◌≡◌, ℕ, ◌+◌, ◌*◌, ◌/◌, ◌%◌, ◌^◌, ◌<◌, ◌≤◌, arith}

abbrev pub word : ℕ → ℕ → ℕ → ℕ → ℕ
word a b c d = a + 65536 * b + 4294967296 * c + 281474976710656 * d

-- the same with the highest first
pub nest : (a b c d : ℕ) → word a b c d ≡ ((d * 65536 + c) * 65536 + b) * 65536 + a
nest a b c d = omega arith

-- and four of 8 bits, two of 32
pub nest_8 : (a b c d : ℕ) → a + 256 * b + 65536 * c + 16777216 * d ≡ ((d * 256 + c) * 256 + b) * 256 + a
nest_8 a b c d = omega arith

pub nest_32 : (a b : ℕ) → a + 4294967296 * b ≡ b * 4294967296 + a
nest_32 a b = omega arith

-- a word is that of its four parts
pub parts : (x : ℕ) → x ≡ word (x % 65536) (x / 65536 % 65536) (x / 65536 / 65536 % 65536) (x / 65536 / 65536 / 65536)
parts x = go (x / 65536) (x / 65536 / 65536) (one x) (one (x / 65536)) (one (x / 65536 / 65536))
  where
    one : (y : ℕ) → y ≡ y % 65536 + 65536 * (y / 65536)
    one y = omega arith

    go : (y z : ℕ) → x ≡ x % 65536 + 65536 * y → y ≡ y % 65536 + 65536 * z → z ≡ z % 65536 + 65536 * (z / 65536) → x ≡ word (x % 65536) (y % 65536) (z % 65536) (z / 65536)
    go y z e f g = omega (arith, e, f, g)

-- and tells them apart
pub apart : (a b d f k t s c : ℕ) → a < 65536 → b < 65536 → d < 65536 → k < 65536 → t < 65536 → s < 65536 → word a b d f ≡ word k t s c → (a ≡ k) × ((b ≡ t) × ((d ≡ s) × (f ≡ c)))
apart a b d f k t s c ha hb hd hk ht hs q =
    (omega (arith, ha, hk, q), (omega (arith, ha, hk, hb, ht, q), (omega (arith, ha, hk, hb, ht, hd, hs, q), omega (arith, ha, hk, hb, ht, hd, hs, q))))

-- a sum in which no part carries
pub carried : (a b d f la lb ld lf : ℕ) → a + la < 65536 → b + lb < 65536 → d + ld < 65536 → f + lf < 65536
    → (word a b d f + word la lb ld lf) % 2 ^ 64 ≡ word (a + la) (b + lb) (d + ld) (f + lf)
carried a b d f la lb ld lf ha hb hd hf = omega (arith, ha, hb, hd, hf)

-- a difference that does not borrow
pub taken : (x k w : ℕ) → x < 2 ^ 64 → (x + k) % 2 ^ 64 ≡ w → k ≤ w → x + k ≡ w
taken x k w h e l = omega (arith, h, e, l)

pub lessened : (a b d f la lb ld lf k t s c x y z v : ℕ) → k ≡ x + la → t ≡ y + lb → s ≡ z + ld → c ≡ v + lf
    → word a b d f + word la lb ld lf ≡ word k t s c → word a b d f ≡ word x y z v
lessened a b d f la lb ld lf k t s c x y z v ek et es ec e = omega (arith, ek, et, es, ec, e)
