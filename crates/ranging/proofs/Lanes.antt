-- A part of 16 bits in a word, tested for its range by a bit that two sums leave clear.
use Rattle.std.proofs.Common.{ℕ, ◌+◌, ◌-◌, ◌<◌, ◌≤◌, Bool, true, T, ltb, leb, arith, le→leb, ltb→lt, lt→ltb, leb→le}
use Rattle.sdp.specs.Range.{from1}
use lib.Ieee.Fits.{and_i, and_l, and_r}

-- a part x of the word less l: x + l is in the range r where x and x + u pass the test f
pub record Lane (f r : ℕ → Bool) (l u : ℕ) : Type 0 where
  pub low : (x : ℕ) → x < 65536 → T (f x) → x + l < 65536
  pub high : (x : ℕ) → x < 65536 → T (f x) → x + u < 65536
  pub into : (x : ℕ) → T (f (x + u)) → T (r (x + l))
  pub least : (k : ℕ) → T (r k) → l ≤ k
  pub first : (x : ℕ) → T (r (x + l)) → T (f x)
  pub second : (x : ℕ) → T (r (x + l)) → T (f (x + u))

-- no top bit
abbrev pub small : ℕ → Bool
small x = ltb x 32768

-- ---- the ranges: from 1, from 0, any
pub from_1 : (most : ℕ) → most ≤ 32768 → Lane small (from1 most) 1 (32768 - most)
from_1 most h = record {
  low = λ x hx t. omega (arith, ltb→lt x 32768 t);
  high = λ x hx t. omega (arith, ltb→lt x 32768 t);
  into = λ x t. and_i (leb 1 (x + 1)) (leb (x + 1) most) (le→leb 1 (x + 1) (omega arith)) (le→leb (x + 1) most (omega (arith, h, ltb→lt (x + (32768 - most)) 32768 t)));
  least = λ k t. leb→le 1 k (and_l (leb 1 k) (leb k most) t);
  first = λ x t. lt→ltb x 32768 (omega (arith, h, leb→le (x + 1) most (and_r (leb 1 (x + 1)) (leb (x + 1) most) t)));
  second = λ x t. lt→ltb (x + (32768 - most)) 32768 (omega (arith, h, leb→le (x + 1) most (and_r (leb 1 (x + 1)) (leb (x + 1) most) t)));
}

pub to : (most : ℕ) → most ≤ 32767 → Lane small (λ x. leb x most) 0 (32767 - most)
to most h = record {
  low = λ x hx t. omega (arith, hx);
  high = λ x hx t. omega (arith, ltb→lt x 32768 t);
  into = λ x t. le→leb (x + 0) most (omega (arith, h, ltb→lt (x + (32767 - most)) 32768 t));
  least = λ k t. omega arith;
  first = λ x t. lt→ltb x 32768 (omega (arith, h, leb→le (x + 0) most t));
  second = λ x t. lt→ltb (x + (32767 - most)) 32768 (omega (arith, h, leb→le (x + 0) most t));
}

pub any : Lane (λ x. true) (λ x. true) 0 0
any = record {
  low = λ x hx t. omega (arith, hx);
  high = λ x hx t. omega (arith, hx);
  into = λ x t. tt;
  least = λ k t. omega arith;
  first = λ x t. tt;
  second = λ x t. tt;
}
