-- The joined words of a media description are 0 where it is in range.
use Rattle.std.proofs.Common.{◌≡◌, ℕ, zero, suc, ◌+◌, ◌%◌, ◌<◌, ◌≤◌, Bool, true, cond, ◌&&◌, ◌||◌, T, eqb, leb, refl, ap, ◌∙◌, ap₂, arith, leb→le, le-leb}
use mathlib.Core.Bool.{and_assoc, and_comm}
use lib.Bits.{bit_or}
use Rattle.sdp.specs.declared.Media.{Media}
use Rattle.sdp.specs.Range.{from1, most_port, given_in, media_in}
use Rattle.ranging.proofs.Tests.{given, and_left_comm}
use Rattle.ranging.proofs.Blocks.{or_zero}
use Rattle.ranging.proofs.Ports.{port_in}

-- ---- what may be absent
abbrev clear : ℕ → ℕ → Bool
clear g n = cond (eqb g 0) (eqb n 0) true

absent : (g n : ℕ) → T (leb g 1) → clear g n ≡ (eqb g 1 || eqb n 0)
absent zero n h = refl
absent (suc zero) n h = refl
absent (suc (suc g)) n h = absurd (never (leb→le (suc (suc g)) 1 h))
  where
    never : suc (suc g) ≤ 1 → ⊥
    never l = omega (arith, l)

-- every figure is in range by its width
wide : (g n : ℕ) → n < 4294967296 → (leb g 1 && clear g n) ≡ given_in 4294967295 g n
wide g n h =
    rw (le-leb n 4294967295 (omega (arith, h)))
    (given (leb g 1) (clear g n) (eqb g 1 || eqb n 0) (absent g n))

-- ---- the tests as the words join them, in the order of the range
sorted : (k t d f g h i u v w x p : Bool)
    → (((k && (t && d)) && (f && (g && (h && i)))) && (((u && v) && (w && x)) && p))
    ≡ (k && (t && (d && (p && ((f && u) && ((g && v) && ((h && w) && (i && x))))))))
sorted k t d f g h i u v w x p = simp (and_assoc, and_comm, and_left_comm)

framed : (k t d x y : Bool) → (T t → x ≡ y) → (k && (t && (d && x))) ≡ (k && (t && (d && y)))
framed k t d x y f = ap (λ (z : Bool). k && z) (given t (d && x) (d && y) (λ h. ap (λ (z : Bool). d && z) (f h)))

module _ (m : Media) (head flags known rate rs rr port : ℕ) (ha : m.address < 4294967296) (hq : m.requested < 4294967296)
    (hs : m.rs < 4294967296) (hr : m.rr < 4294967296) where
  pub media_word :
      eqb head 0 ≡ (from1 6 m.kind && (from1 2 m.transport && from1 4 m.direction))
      → eqb flags 0 ≡ (leb m.known 1 && (leb m.requestedgiven 1 && (leb m.rsgiven 1 && leb m.rrgiven 1)))
      → eqb known 0 ≡ clear m.known m.address
      → eqb rate 0 ≡ clear m.requestedgiven m.requested
      → eqb rs 0 ≡ clear m.rsgiven m.rs
      → eqb rr 0 ≡ clear m.rrgiven m.rr
      → eqb port 0 ≡ leb (m.port + m.transport % 2) 65535
      → eqb (bit_or (bit_or head flags) (bit_or (bit_or (bit_or known rate) (bit_or rs rr)) port)) 0 ≡ media_in m
  unfolding media_in
  media_word h f k a s r p =
      simp or_zero
      (rw (h, f, k, a, s, r, p)
      (sorted (from1 6 m.kind) (from1 2 m.transport) (from1 4 m.direction) (leb m.known 1) (leb m.requestedgiven 1) (leb m.rsgiven 1) (leb m.rrgiven 1)
      (clear m.known m.address) (clear m.requestedgiven m.requested) (clear m.rsgiven m.rs) (clear m.rrgiven m.rr)
      (leb (m.port + m.transport % 2) 65535)
      ∙ framed (from1 6 m.kind) (from1 2 m.transport) (from1 4 m.direction)
      (leb (m.port + m.transport % 2) 65535 && ((leb m.known 1 && clear m.known m.address) && ((leb m.requestedgiven 1 && clear m.requestedgiven m.requested) && ((leb m.rsgiven 1 && clear m.rsgiven m.rs) && (leb m.rrgiven 1 && clear m.rrgiven m.rr)))))
      (leb m.port (most_port m.transport) && (given_in 4294967295 m.known m.address && (given_in 4294967295 m.requestedgiven m.requested && (given_in 4294967295 m.rsgiven m.rs && given_in 4294967295 m.rrgiven m.rr))))
      (λ t. ap₂ ◌&&◌ (port_in m.transport m.port t)
      (ap₂ ◌&&◌ (wide m.known m.address ha) (ap₂ ◌&&◌ (wide m.requestedgiven m.requested hq) (ap₂ ◌&&◌ (wide m.rsgiven m.rs hs) (wide m.rrgiven m.rr hr)))))))
