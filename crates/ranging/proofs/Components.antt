-- The joined words of a component are 0 where it is in range.
use Rattle.std.proofs.Common.{◌≡◌, ℕ, ◌+◌, ◌%◌, ◌<◌, Bool, true, false, ◌&&◌, T, eqb, leb, refl, ap₂, arith, le-leb}
use lib.Bits.{bit_or}
use Rattle.flow.specs.declared.Way.{Way}
use Rattle.flow.specs.declared.Component.{Component}
use Rattle.sdp.specs.Range.{from1}
use Rattle.flow.specs.Range.{is_class, rates_in, way_in, component_in}
use Rattle.ranging.proofs.Blocks.{or_zero}
use Rattle.ranging.proofs.Ports.{port_in}
use Rattle.ranging.proofs.Classes.{class_in}

-- what the words of a way test
abbrev tested : ℕ → Way → Bool
tested t w = leb (w.port + t % 2) 65535 && (leb w.described 1 && (leb w.address 4294967295 && rates_in w))

tested_in : (t : ℕ) (w : Way) → T (from1 2 t) → tested t w ≡ way_in t w
tested_in t w h = rw (port_in t w.port h)

-- a way, whose address and media rate are in range by their width
module _ (t : ℕ) (w : Way) (end rate : ℕ) (a : w.address < 4294967296) (m : w.media < 4294967296) where
  pub way_word :
      eqb end 0 ≡ (leb (w.port + t % 2) 65535 && leb w.described 1)
      → eqb rate 0 ≡ leb w.rtcp.0 8589934590
      → eqb (bit_or end rate) 0 ≡ tested t w
  way_word e r =
      rw (or_zero end rate, e, r, le-leb w.address 4294967295 (omega arith), le-leb w.media 4294967295 (omega arith))
      (joined (leb (w.port + t % 2) 65535) (leb w.described 1) (leb w.rtcp.0 8589934590))
    where
      joined : (a b c : Bool) → ((a && b) && c) ≡ (a && (b && (true && (true && c))))
      joined true b c = refl
      joined false b c = refl

-- the tests of the head, then what the ways add where the transport is in range
framed : (k t s n c z i w : Bool) → (n && c) ≡ i → (T t → z ≡ w) → (((k && (t && (s && n))) && c) && z) ≡ (k && (t && (s && (i && w))))
framed false t s n c z i w p q = refl
framed true false s n c z i w p q = refl
framed true true false n c z i w p q = refl
framed true true true n c z i w p q = ap₂ ◌&&◌ p (q tt)

pub component_word : (c : Component) (head class up down : ℕ)
    → eqb head 0 ≡ (from1 6 c.kind && (from1 2 c.transport && (leb c.status 4 && leb c.class 9)))
    → eqb class 0 ≡ is_class (c.class % 64)
    → eqb up 0 ≡ tested c.transport c.up
    → eqb down 0 ≡ tested c.transport c.down
    → eqb (bit_or (bit_or head class) (bit_or up down)) 0 ≡ component_in c
unfolding component_in
component_word c head class up down h k u d =
    simp or_zero
    (rw (h, k, u, d)
    (framed (from1 6 c.kind) (from1 2 c.transport) (leb c.status 4) (leb c.class 9) (is_class (c.class % 64))
    (tested c.transport c.up && tested c.transport c.down) (is_class c.class) (way_in c.transport c.up && way_in c.transport c.down)
    (class_in c.class)
    (λ t. ap₂ ◌&&◌ (tested_in c.transport c.up t) (tested_in c.transport c.down t))))
