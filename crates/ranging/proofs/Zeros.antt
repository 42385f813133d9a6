-- A word of fields is 0 where each field is.
use Rattle.std.proofs.Common.{◌≡◌, ℕ, ◌+◌, ◌*◌, Bool, ◌&&◌, eqb, ap, ◌∙◌}
use mathlib.Core.Bool.{and_assoc}
use lib.Bits.{bit_or}
use Rattle.flow.specs.declared.Way.{Way}
use Rattle.flow.specs.declared.Component.{Component}
use Rattle.sdp.specs.declared.Media.{Media}
use Rattle.sdp.specs.Range.{is_no_media}
use Rattle.flow.specs.Range.{is_no_way, is_no_component}
use Rattle.ranging.proofs.Tests.{and_left_comm}
use Rattle.ranging.proofs.Blocks.{or_zero, zero_block, zero_blocks}
use Rattle.ranging.proofs.Fours.{word, nest, nest_8, nest_32}

-- ---- words of 16, 8 and 32 bits
zero_16 : (a b c d : ℕ) → eqb (word a b c d) 0 ≡ (eqb a 0 && (eqb b 0 && (eqb c 0 && eqb d 0)))
zero_16 a b c d = ap (λ (x : ℕ). eqb x 0) (nest a b c d) ∙ zero_blocks 16 a b c d

zero_8 : (a b c d : ℕ) → eqb (a + 256 * b + 65536 * c + 16777216 * d) 0 ≡ (eqb a 0 && (eqb b 0 && (eqb c 0 && eqb d 0)))
zero_8 a b c d = ap (λ (x : ℕ). eqb x 0) (nest_8 a b c d) ∙ zero_blocks 8 a b c d

zero_32 : (a b : ℕ) → eqb (a + 4294967296 * b) 0 ≡ (eqb a 0 && eqb b 0)
zero_32 a b = ap (λ (x : ℕ). eqb x 0) (nest_32 a b) ∙ zero_block 32 b a

-- ---- the words of a way, a component, a media description
pub no_way_lem : (w : Way) (x y : ℕ) → x ≡ w.address + 4294967296 * w.media → y ≡ w.port + 4294967296 * w.described → eqb (bit_or w.rtcp.0 (bit_or x y)) 0 ≡ is_no_way w
no_way_lem w x y e f = simp or_zero (rw (e, f, zero_32 w.address w.media, zero_32 w.port w.described) (simp and_assoc))

pub no_component_lem : (c : Component) (head up down : ℕ) → head ≡ word c.kind c.transport c.status c.class → eqb up 0 ≡ is_no_way c.up → eqb down 0 ≡ is_no_way c.down
    → eqb (bit_or head (bit_or up down)) 0 ≡ is_no_component c
unfolding is_no_component
no_component_lem c head up down e u d = simp or_zero (rw (e, zero_16 c.kind c.transport c.status c.class, u, d) (simp and_assoc))

sorted : (p k t d n g s r a v x y : Bool) → (((p && (k && (t && d))) && (n && (g && (s && r)))) && ((a && v) && (x && y)))
    ≡ (k && (t && (d && (p && (n && (a && (g && (v && (s && (x && (r && y)))))))))))
sorted p k t d n g s r a v x y = simp (and_assoc, and_left_comm)

pub no_media_lem : (m : Media) (head flags firsts seconds : ℕ) → head ≡ word m.port m.kind m.transport m.direction
    → flags ≡ m.known + 256 * m.requestedgiven + 65536 * m.rsgiven + 16777216 * m.rrgiven
    → firsts ≡ m.address + 4294967296 * m.requested → seconds ≡ m.rs + 4294967296 * m.rr
    → eqb (bit_or (bit_or head flags) (bit_or firsts seconds)) 0 ≡ is_no_media m
unfolding is_no_media
no_media_lem m head flags firsts seconds h f a b =
    simp or_zero
    (rw (h, f, a, b, zero_16 m.port m.kind m.transport m.direction, zero_8 m.known m.requestedgiven m.rsgiven m.rrgiven, zero_32 m.address m.requested, zero_32 m.rs m.rr)
    (sorted (eqb m.port 0) (eqb m.kind 0) (eqb m.transport 0) (eqb m.direction 0) (eqb m.known 0) (eqb m.requestedgiven 0) (eqb m.rsgiven 0) (eqb m.rrgiven 0)
    (eqb m.address 0) (eqb m.requested 0) (eqb m.rs 0) (eqb m.rr 0)))
