-- Four parts of a word, each tested for its range by a bit that two sums leave clear: a law for any four ranges.
use Rattle.std.proofs.Common.{◌≡◌, ℕ, ◌+◌, ◌-◌, ◌/◌, ◌%◌, ◌^◌, ◌<◌, ◌≤◌, Bool, ◌&&◌, T, eqb, sym, ap, ◌∙◌, subst, arith}
use lib.Bits.{bit_and, bit_or}
use lib.Ieee.Fits.{and_i, and_l, and_r}
use Rattle.ranging.proofs.Tests.{same, given, all, each}
use Rattle.ranging.proofs.Blocks.{or_zero}
use Rattle.ranging.proofs.Fours.{word, parts, apart, carried, taken, lessened}
use Rattle.ranging.proofs.Lanes.{Lane}

module _ {fa ra fb rb fd rd ff rf : ℕ → Bool} {la ua lb ub ld ud lf uf : ℕ} (A : Lane fa ra la ua) (B : Lane fb rb lb ub) (D : Lane fd rd ld ud) (F : Lane ff rf lf uf) where
  -- the test of four parts
  abbrev tested : ℕ → ℕ → ℕ → ℕ → Bool
  tested a b d f = fa a && (fb b && (fd d && ff f))

  abbrev ranged : ℕ → ℕ → ℕ → ℕ → Bool
  ranged k t s c = ra k && (rb t && (rd s && rf c))

  -- a to f: the parts of the word less the least of each
  module _ (a b d f k t s c : ℕ) (ha : a < 65536) (hb : b < 65536) (hd : d < 65536) (hf : f < 65536) (hk : k < 65536) (ht : t < 65536) (hs : s < 65536)
      (w : (word a b d f + word la lb ld lf) % 2 ^ 64 ≡ word k t s c) where
    raised : T (tested a b d f) → (word a b d f + word ua ub ud uf) % 2 ^ 64 ≡ word (a + ua) (b + ub) (d + ud) (f + uf)
    raised h = go (each (fa a) (fb b) (fd d) (ff f) h)
      where
        go : T (fa a) × (T (fb b) × (T (fd d) × T (ff f))) → (word a b d f + word ua ub ud uf) % 2 ^ 64 ≡ word (a + ua) (b + ub) (d + ud) (f + uf)
        go (ta, (tb, (td, tf))) = carried a b d f ua ub ud uf (A.high a ha ta) (B.high b hb tb) (D.high d hd td) (F.high f hf tf)

    into4 : T (tested a b d f) → T (tested (a + ua) (b + ub) (d + ud) (f + uf)) → T (ranged k t s c)
    into4 h i = go (each (fa a) (fb b) (fd d) (ff f) h) (each (fa (a + ua)) (fb (b + ub)) (fd (d + ud)) (ff (f + uf)) i)
      where
        last : (a + la ≡ k) × ((b + lb ≡ t) × ((d + ld ≡ s) × (f + lf ≡ c))) → T (fa (a + ua)) × (T (fb (b + ub)) × (T (fd (d + ud)) × T (ff (f + uf)))) → T (ranged k t s c)
        last (ek, (et, (es, ec))) (ta, (tb, (td, tf))) =
            all (ra k) (rb t) (rd s) (rf c)
            (subst (λ (x : ℕ). T (ra x)) ek (A.into a ta)) (subst (λ (x : ℕ). T (rb x)) et (B.into b tb))
            (subst (λ (x : ℕ). T (rd x)) es (D.into d td)) (subst (λ (x : ℕ). T (rf x)) ec (F.into f tf))

        go : T (fa a) × (T (fb b) × (T (fd d) × T (ff f))) → T (fa (a + ua)) × (T (fb (b + ub)) × (T (fd (d + ud)) × T (ff (f + uf)))) → T (ranged k t s c)
        go (ta, (tb, (td, tf))) =
            last
            (apart (a + la) (b + lb) (d + ld) (f + lf) k t s c (A.low a ha ta) (B.low b hb tb) (D.low d hd td) hk ht hs
            (sym (carried a b d f la lb ld lf (A.low a ha ta) (B.low b hb tb) (D.low d hd td) (F.low f hf tf)) ∙ w))

    back4 : T (ranged k t s c) → T (tested a b d f && tested (a + ua) (b + ub) (d + ud) (f + uf))
    back4 h = go (each (ra k) (rb t) (rd s) (rf c) h)
      where
        last : T (ra k) × (T (rb t) × (T (rd s) × T (rf c))) → (k ≡ a + la) × ((t ≡ b + lb) × ((s ≡ d + ld) × (c ≡ f + lf))) → T (tested a b d f && tested (a + ua) (b + ub) (d + ud) (f + uf))
        last (pk, (pt, (ps, pc))) (ek, (et, (es, ec))) =
            done (subst (λ (x : ℕ). T (ra x)) ek pk) (subst (λ (x : ℕ). T (rb x)) et pt) (subst (λ (x : ℕ). T (rd x)) es ps) (subst (λ (x : ℕ). T (rf x)) ec pc)
          where
            done : T (ra (a + la)) → T (rb (b + lb)) → T (rd (d + ld)) → T (rf (f + lf)) → T (tested a b d f && tested (a + ua) (b + ub) (d + ud) (f + uf))
            done p q r u =
                and_i (tested a b d f) (tested (a + ua) (b + ub) (d + ud) (f + uf))
                (all (fa a) (fb b) (fd d) (ff f) (A.first a p) (B.first b q) (D.first d r) (F.first f u))
                (all (fa (a + ua)) (fb (b + ub)) (fd (d + ud)) (ff (f + uf)) (A.second a p) (B.second b q) (D.second d r) (F.second f u))

        turned : la ≤ k → lb ≤ t → ld ≤ s → lf ≤ c → (a ≡ k - la) × ((b ≡ t - lb) × ((d ≡ s - ld) × (f ≡ c - lf))) → (k ≡ a + la) × ((t ≡ b + lb) × ((s ≡ d + ld) × (c ≡ f + lf)))
        turned lk lt ls lc (p, (q, (r, u))) = (omega (arith, lk, p), (omega (arith, lt, q), (omega (arith, ls, r), omega (arith, lc, u))))

        found : la ≤ k → lb ≤ t → ld ≤ s → lf ≤ c → (k ≡ a + la) × ((t ≡ b + lb) × ((s ≡ d + ld) × (c ≡ f + lf)))
        found lk lt ls lc =
            turned lk lt ls lc
            (apart a b d f (k - la) (t - lb) (s - ld) (c - lf) ha hb hd (omega (arith, hk)) (omega (arith, ht)) (omega (arith, hs))
            (lessened a b d f la lb ld lf k t s c (k - la) (t - lb) (s - ld) (c - lf) (omega (arith, lk)) (omega (arith, lt)) (omega (arith, ls)) (omega (arith, lc)) (taken (word a b d f) (word la lb ld lf) (word k t s c) (omega (arith, ha, hb, hd, hf)) w (omega (arith, lk, lt, ls, lc)))))

        go : T (ra k) × (T (rb t) × (T (rd s) × T (rf c))) → T (tested a b d f && tested (a + ua) (b + ub) (d + ud) (f + uf))
        go (pk, (pt, (ps, pc))) = last (pk, (pt, (ps, pc))) (found (A.least k pk) (B.least t pt) (D.least s ps) (F.least c pc))

  -- under a mask that makes those tests, two sums test the ranges
  module _ (M : ℕ) (masked : (a b d f : ℕ) → a < 65536 → b < 65536 → d < 65536 → f < 65536 → eqb (bit_and (word a b d f) M) 0 ≡ tested a b d f) where
    sums : (a b d f k t s c : ℕ) → a < 65536 → b < 65536 → d < 65536 → f < 65536 → k < 65536 → t < 65536 → s < 65536 → (word a b d f + word la lb ld lf) % 2 ^ 64 ≡ word k t s c
        → eqb (bit_or (bit_and (word a b d f) M) (bit_and ((word a b d f + word ua ub ud uf) % 2 ^ 64) M)) 0 ≡ ranged k t s c
    sums a b d f k t s c ha hb hd hf hk ht hs w =
        or_zero (bit_and (word a b d f) M) (bit_and ((word a b d f + word ua ub ud uf) % 2 ^ 64) M)
        ∙ ap (λ (x : Bool). x && eqb (bit_and ((word a b d f + word ua ub ud uf) % 2 ^ 64) M) 0) (masked a b d f ha hb hd hf)
        ∙ given (tested a b d f) (eqb (bit_and ((word a b d f + word ua ub ud uf) % 2 ^ 64) M) 0) (tested (a + ua) (b + ub) (d + ud) (f + uf)) above
        ∙ same (tested a b d f && tested (a + ua) (b + ub) (d + ud) (f + uf)) (ranged k t s c)
        (λ h. into4 a b d f k t s c ha hb hd hf hk ht hs w (and_l (tested a b d f) (tested (a + ua) (b + ub) (d + ud) (f + uf)) h) (and_r (tested a b d f) (tested (a + ua) (b + ub) (d + ud) (f + uf)) h))
        (back4 a b d f k t s c ha hb hd hf hk ht hs w)
      where
        above : T (tested a b d f) → eqb (bit_and ((word a b d f + word ua ub ud uf) % 2 ^ 64) M) 0 ≡ tested (a + ua) (b + ub) (d + ud) (f + uf)
        above h = ap (λ (x : ℕ). eqb (bit_and x M) 0) (raised a b d f k t s c ha hb hd hf hk ht hs w h) ∙ go (each (fa a) (fb b) (fd d) (ff f) h)
          where
            go : T (fa a) × (T (fb b) × (T (fd d) × T (ff f))) → eqb (bit_and (word (a + ua) (b + ub) (d + ud) (f + uf)) M) 0 ≡ tested (a + ua) (b + ub) (d + ud) (f + uf)
            go (ta, (tb, (td, tf))) = masked (a + ua) (b + ub) (d + ud) (f + uf) (A.high a ha ta) (B.high b hb tb) (D.high d hd td) (F.high f hf tf)

    pub lanes : (low k t s c : ℕ) → low < 2 ^ 64 → k < 65536 → t < 65536 → s < 65536 → (low + word la lb ld lf) % 2 ^ 64 ≡ word k t s c
        → eqb (bit_or (bit_and low M) (bit_and ((low + word ua ub ud uf) % 2 ^ 64) M)) 0 ≡ ranged k t s c
    lanes low k t s c hl hk ht hs w =
        ap (λ (x : ℕ). eqb (bit_or (bit_and x M) (bit_and ((x + word ua ub ud uf) % 2 ^ 64) M)) 0) (parts low)
        ∙ sums (low % 65536) (low / 65536 % 65536) (low / 65536 / 65536 % 65536) (low / 65536 / 65536 / 65536) k t s c
        (omega arith) (omega arith) (omega arith) (omega (arith, hl)) hk ht hs (subst (λ (x : ℕ). (x + word la lb ld lf) % 2 ^ 64 ≡ word k t s c) (parts low) w)
