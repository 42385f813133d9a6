-- The tests of what a session holds for 19, and its ranges, say the same; what it then books is small. Assumes nothing.
use Prim.Native.Nat.{ℕ, ◌+◌, ◌≤◌, ◌<◌}
use native.Mathlib.Omega.{arith}
use mathlib.Core.Path.{◌≡◌}
use mathlib.Core.Bool.{Bool, true, ◌&&◌, ◌||◌}
use lib.Dec.{ltb, leb, eqb}
use borrow.Author.Tests.{leb-true, le-leb, eqb-true, eqb-false, eq-eqb, ltb-true, ltb-false, lt-ltb}
use Rattle.sdp.specs.Range.{MediaRange, from1, most_port}
use Rattle.sdp.proofs.Tests.{and_left, and_right, and_both, both}
use Rattle.sdp.proofs.Ranged.{in_1, port_in, media_range}
use Rattle.flow.specs.declared.Way.{Way}
use Rattle.flow.specs.declared.Component.{Component}
use Rattle.flow.specs.declared.Held.{Held}
use Rattle.flow.specs.declared.Descriptions.{Descriptions}
use Rattle.flow.specs.Slots.{every}
use Rattle.flow.specs.Session.{held_at}
use Rattle.flow.specs.Before.{before_of}
use Rattle.flow.specs.Bearer.{booked_up, booked_down}
use Rattle.flow.specs.Derive.{said_at}
use Rattle.flow.specs.Range.{is_class, WayRange, ComponentRange, HeldRange, rates_in, way_in, component_in, is_no_way, is_no_component, component_at, held_rates, held_in, media_at}
use Rattle.flow.proofs.Tests.{by_test}
use Rattle.flow.proofs.Slots.{every_has, has_every}

-- The rates of a direction in range, and of an unused one.
rates_small : (w : Way) → rates_in w ≡ true → w.media + w.rtcp.0 ≤ 12884901885
rates_small w e =
    let c = both (leb w.media 4294967295) (leb w.rtcp.0 8589934590) e in
    omega (arith, leb-true w.media 4294967295 c.0, leb-true w.rtcp.0 8589934590 c.1)

way_rates : (transport : ℕ) (w : Way) → way_in transport w ≡ true → rates_in w ≡ true
way_rates transport w e =
    let a = and_right (leb w.port (most_port transport)) _ e in
    let b = and_right (leb w.described 1) _ a in
    and_right (leb w.address 4294967295) (rates_in w) b

no_way_rates : (w : Way) → is_no_way w ≡ true → (w.media ≡ 0) × (w.rtcp.0 ≡ 0)
no_way_rates w e =
    let a = both (eqb w.rtcp.0 0) _ e in
    let b = and_right (eqb w.address 0) _ a.1 in
    (eqb-true w.media 0 (and_left (eqb w.media 0) _ b), eqb-true w.rtcp.0 0 a.0)

none_small : (w : Way) → is_no_way w ≡ true → rates_in w ≡ true
none_small w e = let n = no_way_rates w e in rw (n.0, n.1)

-- The rates of a component in range, and of an unused one, are in range.
component_rates : (c : Component) → component_in c ≡ true → (rates_in c.up && rates_in c.down) ≡ true
unfolding component_in
component_rates c e =
    let a = and_right (from1 6 c.kind) _ e in
    let b = and_right (from1 2 c.transport) _ a in
    let d = and_right (leb c.status 4) _ b in
    let f = both (way_in c.transport c.up) (way_in c.transport c.down) (and_right (is_class c.class) _ d) in
    and_both (rates_in c.up) (rates_in c.down) (way_rates c.transport c.up f.0) (way_rates c.transport c.down f.1)

unused_ways : (c : Component) → is_no_component c ≡ true → (is_no_way c.up ≡ true) × (is_no_way c.down ≡ true)
unfolding is_no_component
unused_ways c e =
    let a = and_right (eqb c.kind 0) _ e in
    let b = and_right (eqb c.transport 0) _ a in
    let d = and_right (eqb c.status 0) _ b in
    both (is_no_way c.up) (is_no_way c.down) (and_right (eqb c.class 0) _ d)

-- An unused component books nothing.
pub unused_rates : (c : Component) → is_no_component c ≡ true → (booked_up c ≡ 0) × (booked_down c ≡ 0)
unused_rates c e =
    let f = unused_ways c e in
    let up = no_way_rates c.up f.0 in
    let down = no_way_rates c.down f.1 in
    (omega (arith, up.0, up.1), omega (arith, down.0, down.1))

-- All slots of a session in range pass their tests.
pub held_slots : (h : Held) → held_in h ≡ true → every (component_at h) 8 ≡ true
unfolding held_in
held_slots h e =
    let a = and_right (leb h.completed 1) _ e in
    let b = and_right (is_class h.kept) _ a in
    let c = and_right (leb h.count 8) _ b in
    and_right (eqb h.completed 1 || (eqb h.kept 0 && eqb h.count 0)) (every (component_at h) 8) c

-- The rates of a session in range are in range.
pub held_rates_lem : (h : Held) → held_in h ≡ true → held_rates h ≡ true
unfolding held_rates component_at
held_rates_lem h e =
    has_every (λ j. rates_in (held_at h j).up && rates_in (held_at h j).down) 8
    (λ j k.
    let s = every_has (component_at h) 8 (held_slots h e) j k in
    by_test (ltb j h.count) (λ t. component_rates (held_at h j) (rw t at s))
    (λ t.
    let n = unused_ways (held_at h j) (rw t at s) in
    and_both (rates_in (held_at h j).up) (rates_in (held_at h j).down) (none_small (held_at h j).up n.0) (none_small (held_at h j).down n.1)))

-- What each slot then books.
pub slot_rates : (h : Held) (j : ℕ) → held_rates h ≡ true → j < 8 → (booked_up (held_at h j) ≤ 12884901885) × (booked_down (held_at h j) ≤ 12884901885)
unfolding held_rates
slot_rates h j e k =
    let s = both (rates_in (held_at h j).up) (rates_in (held_at h j).down) (every_has (λ i. rates_in (held_at h i).up && rates_in (held_at h i).down) 8 e j k) in
    (rates_small (held_at h j).up s.0, rates_small (held_at h j).down s.1)

pub held_class : (h : Held) → held_in h ≡ true → is_class h.kept ≡ true
unfolding held_in
held_class h e = and_left (is_class h.kept) _ (and_right (leb h.completed 1) _ e)

-- The class that deriving reads is the kept one.
pub before_class : (h : Held) → is_class h.kept ≡ true → is_class (before_of h).kept ≡ true
unfolding before_of
before_class h e = e

-- What lies in its ranges passes its tests.
way_sound : (transport : ℕ) (w : Way) → WayRange transport w → way_in transport w ≡ true
way_sound transport w r =
    rw (
      port_in transport w.port r.port r.rtp,
      le-leb w.described 1 r.described,
      le-leb w.address 4294967295 r.address,
      le-leb w.media 4294967295 r.media,
      le-leb w.rtcp.0 8589934590 r.rtcp,
    )

component_sound : (c : Component) → ComponentRange c → component_in c ≡ true
unfolding component_in
component_sound c r =
    rw (
      in_1 6 c.kind r.kind,
      in_1 2 c.transport r.transport,
      le-leb c.status 4 r.status,
      r.class,
      way_sound c.transport c.up r.up,
      way_sound c.transport c.down r.down,
    )

pub slot_sound : (h : Held) → HeldRange h → (j : ℕ) → j < 8 → component_at h j ≡ true
unfolding component_at is_no_component
slot_sound h r j k =
    by_test (ltb j h.count) (λ e. rw e (component_sound (held_at h j) (r.components j (ltb-true j h.count e))))
    (λ e. rw (e, r.unused j (ltb-false j h.count e)))

-- Either an exchange was derived, or the count and the kept class are zeros.
used_sound : (h : Held) → HeldRange h → (eqb h.completed 1 || (eqb h.kept 0 && eqb h.count 0)) ≡ true
used_sound h r =
    by_test (eqb h.completed 1) (λ e. rw e)
    (λ e.
    let z = r.underived (omega (arith, r.completed, eqb-false h.completed 1 e)) in
    rw (e, eq-eqb h.kept 0 z.0, eq-eqb h.count 0 z.1))

pub held_sound : (h : Held) → HeldRange h → held_in h ≡ true
unfolding held_in
held_sound h r =
    and_both (leb h.completed 1) (is_class h.kept && (leb h.count 8 && (used && every (component_at h) 8))) (le-leb h.completed 1 r.completed)
    (and_both (is_class h.kept) (leb h.count 8 && (used && every (component_at h) 8)) r.kept
    (and_both (leb h.count 8) (used && every (component_at h) 8) (le-leb h.count 8 r.count)
    (and_both used (every (component_at h) 8) (used_sound h r) (has_every (component_at h) 8 (slot_sound h r))))) where
      used : Bool
      used = eqb h.completed 1 || (eqb h.kept 0 && eqb h.count 0)

-- Below the count a description that passes its test lies in range.
pub media_at_lem : (d : Descriptions) (j : ℕ) → media_at d j ≡ true → j < d.count → MediaRange (said_at d j)
unfolding media_at
media_at_lem d j e h = media_range (said_at d j) (rw (lt-ltb j d.count h) at e)
