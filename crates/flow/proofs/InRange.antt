-- In range, exactly: what a session holds passes its tests for 19 exactly if it lies in the ranges of document 01, and so do the descriptions of an
-- open offer. Assumes nothing.
use Prim.Native.Nat.{ℕ, ◌≤◌, ◌<◌}
use native.Mathlib.Omega.{arith}
use mathlib.Core.Path.{◌≡◌}
use mathlib.Core.Logic.{◌↔◌}
use mathlib.Core.Bool.{true, ◌&&◌, ◌||◌}
use lib.ListN.{length, get_or-eq_default}
use lib.Dec.{ltb, leb, eqb}
use borrow.Author.Tests.{leb-true, le-leb, eqb-true, ltb-true, ltb-false, lt-ltb, le-ltb}
use Rattle.sdp.specs.Range.{from1, most_port, is_no_media}
use Rattle.sdp.specs.Section.{no_media}
use Rattle.sdp.specs.declared.Media.{Media}
use Rattle.sdp.proofs.Tests.{and_both, both}
use Rattle.sdp.proofs.Ranged.{range_1, port_range, media_sound}
use Rattle.flow.specs.declared.Way.{Way}
use Rattle.flow.specs.declared.Component.{Component}
use Rattle.flow.specs.declared.Held.{Held}
use Rattle.flow.specs.declared.Descriptions.{Descriptions}
use Rattle.flow.specs.Slots.{every}
use Rattle.flow.specs.Session.{no_way, no_component, held_at}
use Rattle.flow.specs.Derive.{said_at}
use Rattle.flow.specs.Range.{is_class, WayRange, ComponentRange, HeldRange, DescriptionsRange, rates_in, way_in, component_in, is_no_way, is_no_component, component_at, held_in, media_at}
use Rattle.flow.proofs.Tests.{by_test}
use Rattle.flow.proofs.Slots.{every_has, has_every}
use Rattle.flow.proofs.Ranged.{held_sound, media_at_lem}

-- What passes its tests lies in its ranges.
way_in_lem : (transport : ℕ) (w : Way) → way_in transport w ≡ true → WayRange transport w
way_in_lem transport w e =
    let a = both (leb w.port (most_port transport)) _ e in
    let b = both (leb w.described 1) _ a.1 in
    let c = both (leb w.address 4294967295) (rates_in w) b.1 in
    let d = both (leb w.media 4294967295) (leb w.rtcp.0 8589934590) c.1 in
    let p = port_range transport w.port a.0 in
    record {
      rtcp = leb-true w.rtcp.0 8589934590 d.1;
      address = leb-true w.address 4294967295 c.0;
      media = leb-true w.media 4294967295 d.0;
      port = p.0;
      rtp = p.1;
      described = leb-true w.described 1 b.0;
    }

component_in_lem : (c : Component) → component_in c ≡ true → ComponentRange c
unfolding component_in
component_in_lem c e =
    let k = both (from1 6 c.kind) _ e in
    let t = both (from1 2 c.transport) _ k.1 in
    let s = both (leb c.status 4) _ t.1 in
    let l = both (is_class c.class) _ s.1 in
    let w = both (way_in c.transport c.up) (way_in c.transport c.down) l.1 in
    record {
      kind = range_1 6 c.kind k.0;
      transport = range_1 2 c.transport t.0;
      status = leb-true c.status 4 s.0;
      class = l.0;
      up = way_in_lem c.transport c.up w.0;
      down = way_in_lem c.transport c.down w.1;
    }

-- What passes the tests of an unused part is all zeros.
no_way_in : (w : Way) → is_no_way w ≡ true → w ≡ no_way
no_way_in w e =
    let a = both (eqb w.rtcp.0 0) _ e in
    let b = both (eqb w.address 0) _ a.1 in
    let c = both (eqb w.media 0) _ b.1 in
    let d = both (eqb w.port 0) (eqb w.described 0) c.1 in
    λ i.
    record {
      rtcp = record { 0 = eqb-true w.rtcp.0 0 a.0 i };
      address = eqb-true w.address 0 b.0 i;
      media = eqb-true w.media 0 c.0 i;
      port = eqb-true w.port 0 d.0 i;
      described = eqb-true w.described 0 d.1 i;
    }

no_component_in : (c : Component) → is_no_component c ≡ true → c ≡ no_component
unfolding is_no_component
no_component_in c e =
    let k = both (eqb c.kind 0) _ e in
    let t = both (eqb c.transport 0) _ k.1 in
    let s = both (eqb c.status 0) _ t.1 in
    let l = both (eqb c.class 0) _ s.1 in
    let w = both (is_no_way c.up) (is_no_way c.down) l.1 in
    λ i.
    record {
      kind = eqb-true c.kind 0 k.0 i;
      transport = eqb-true c.transport 0 t.0 i;
      status = eqb-true c.status 0 s.0 i;
      class = eqb-true c.class 0 l.0 i;
      up = no_way_in c.up w.0 i;
      down = no_way_in c.down w.1 i;
    }

no_media_in : (m : Media) → is_no_media m ≡ true → m ≡ no_media
unfolding is_no_media
no_media_in m e =
    let a = both (eqb m.kind 0) _ e in
    let b = both (eqb m.transport 0) _ a.1 in
    let c = both (eqb m.direction 0) _ b.1 in
    let d = both (eqb m.port 0) _ c.1 in
    let f = both (eqb m.known 0) _ d.1 in
    let g = both (eqb m.address 0) _ f.1 in
    let h = both (eqb m.requestedgiven 0) _ g.1 in
    let k = both (eqb m.requested 0) _ h.1 in
    let l = both (eqb m.rsgiven 0) _ k.1 in
    let n = both (eqb m.rs 0) _ l.1 in
    let o = both (eqb m.rrgiven 0) (eqb m.rr 0) n.1 in
    λ i.
    record {
      address = eqb-true m.address 0 g.0 i;
      requested = eqb-true m.requested 0 k.0 i;
      rs = eqb-true m.rs 0 n.0 i;
      rr = eqb-true m.rr 0 o.1 i;
      port = eqb-true m.port 0 d.0 i;
      kind = eqb-true m.kind 0 a.0 i;
      transport = eqb-true m.transport 0 b.0 i;
      direction = eqb-true m.direction 0 c.0 i;
      known = eqb-true m.known 0 f.0 i;
      requestedgiven = eqb-true m.requestedgiven 0 h.0 i;
      rsgiven = eqb-true m.rsgiven 0 l.0 i;
      rrgiven = eqb-true m.rrgiven 0 o.0 i;
    }

-- A slot past the count is unused, and so is one past the eight.
unused_in : (h : Held) → length h.components ≡ 8 → every (component_at h) 8 ≡ true → (j : ℕ) → h.count ≤ j → held_at h j ≡ no_component
unfolding component_at
unused_in h n e j k =
    by_test (ltb j 8)
    (λ t. no_component_in (held_at h j) (rw (le-ltb j h.count k) at (every_has (component_at h) 8 e j (ltb-true j 8 t))))
    (λ t. get_or-eq_default h.components no_component (omega (arith, n, ltb-false j 8 t)))

slot_in : (h : Held) (j : ℕ) → component_at h j ≡ true → j < h.count → ComponentRange (held_at h j)
unfolding component_at
slot_in h j e k = component_in_lem (held_at h j) (rw (lt-ltb j h.count k) at e)

-- Where nothing was derived since the last close, count and kept class are zeros.
underived_in : (h : Held) → (eqb h.completed 1 || (eqb h.kept 0 && eqb h.count 0)) ≡ true → h.completed ≡ 0 → (h.kept ≡ 0) × (h.count ≡ 0)
underived_in h e z =
    let k = both (eqb h.kept 0) (eqb h.count 0) (rw z at e) in
    (eqb-true h.kept 0 k.0, eqb-true h.count 0 k.1)

held_in_lem : (h : Held) → length h.components ≡ 8 → held_in h ≡ true → HeldRange h
unfolding held_in
held_in_lem h n e =
    let a = both (leb h.completed 1) _ e in
    let b = both (is_class h.kept) _ a.1 in
    let c = both (leb h.count 8) _ b.1 in
    let d = both (eqb h.completed 1 || (eqb h.kept 0 && eqb h.count 0)) (every (component_at h) 8) c.1 in
    let most = leb-true h.count 8 c.0 in
    record {
      completed = leb-true h.completed 1 a.0;
      kept = b.0;
      count = most;
      underived = underived_in h d.0;
      components = λ j k. slot_in h j (every_has (component_at h) 8 d.1 j (omega (arith, k, most))) k;
      unused = unused_in h n d.1;
      eight = n;
    }

-- "Ranges for 19": what a session holds passes the tests exactly if each field lies in its range and each unused part is all zeros.
pub held_exactly : (h : Held) → length h.components ≡ 8 → (held_in h ≡ true) ↔ HeldRange h
held_exactly h n = (held_in_lem h n, held_sound h)

-- The same of what an open offer says.
module _ (d : Descriptions) where
  said_unused : length d.media ≡ 8 → every (media_at d) 8 ≡ true → (j : ℕ) → d.count ≤ j → said_at d j ≡ no_media
  unfolding media_at
  said_unused n e j k =
      by_test (ltb j 8)
      (λ t. no_media_in (said_at d j) (rw (le-ltb j d.count k) at (every_has (media_at d) 8 e j (ltb-true j 8 t))))
      (λ t. get_or-eq_default d.media no_media (omega (arith, n, ltb-false j 8 t)))

  said_in : length d.media ≡ 8 → (leb d.count 8 && every (media_at d) 8) ≡ true → DescriptionsRange d
  said_in n e =
      let a = both (leb d.count 8) (every (media_at d) 8) e in
      let most = leb-true d.count 8 a.0 in
      record {
        count = most;
        described = λ j k. media_at_lem d j (every_has (media_at d) 8 a.1 j (omega (arith, k, most))) k;
        unused = said_unused n a.1;
        eight = n;
      }

  said_slot : DescriptionsRange d → (j : ℕ) → j < 8 → media_at d j ≡ true
  unfolding media_at is_no_media
  said_slot r j k =
      by_test (ltb j d.count) (λ e. rw e (media_sound (said_at d j) (r.described j (ltb-true j d.count e))))
      (λ e. rw (e, r.unused j (ltb-false j d.count e)))

  pub said_sound : DescriptionsRange d → (leb d.count 8 && every (media_at d) 8) ≡ true
  said_sound r = and_both (leb d.count 8) (every (media_at d) 8) (le-leb d.count 8 r.count) (has_every (media_at d) 8 (said_slot r))

  -- "each field of an open offer what a text can give": exactly then the descriptions pass their tests.
  pub said_exactly : length d.media ≡ 8 → ((leb d.count 8 && every (media_at d) 8) ≡ true) ↔ DescriptionsRange d
  said_exactly n = (said_in n, said_sound)
