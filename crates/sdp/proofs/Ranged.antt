-- The tests of a description for 19 and its ranges say the same. Assumes nothing.
use Prim.Native.Nat.{ℕ, ◌≤◌}
use native.Mathlib.Omega.{arith}
use mathlib.Core.Path.{◌≡◌, refl}
use mathlib.Core.Bool.{Bool, true, false, cond, ◌&&◌, ◌||◌}
use lib.Dec.{leb, eqb}
use borrow.Author.Tests.{leb-true, le-leb, eqb-true, eqb-false, eq-eqb}
use Rattle.sdp.specs.Section.{no_media}
use Rattle.sdp.specs.Range.{Given, MediaRange, from1, most_port, given_in, media_in, is_no_media}
use Rattle.sdp.specs.declared.Media.{Media}
use Rattle.sdp.proofs.Tests.{and_both, both}

pub range_1 : (most n : ℕ) → from1 most n ≡ true → (1 ≤ n) × (n ≤ most)
range_1 most n e = let k = both (leb 1 n) (leb n most) e in (leb-true 1 n k.0, leb-true n most k.1)

pub in_1 : (most n : ℕ) → (1 ≤ n) × (n ≤ most) → from1 most n ≡ true
in_1 most n h = and_both (leb 1 n) (leb n most) (le-leb 1 n h.0) (le-leb n most h.1)

-- A port to the most of its transport is one to 65,535, and of RTP/AVP to 65,534.
pub port_range : (transport port : ℕ) → leb port (most_port transport) ≡ true → (port ≤ 65535) × (transport ≡ 1 → port ≤ 65534)
port_range transport port e = by (eqb transport 1) refl e where
  by : (t : Bool) → eqb transport 1 ≡ t → leb port (cond t 65534 65535) ≡ true → (port ≤ 65535) × (transport ≡ 1 → port ≤ 65534)
  by true k h = (omega (arith, leb-true port 65534 h), λ z. leb-true port 65534 h)
  by false k h = (leb-true port 65535 h, λ z. absurd (eqb-false transport 1 k z))

pub port_in : (transport port : ℕ) → port ≤ 65535 → (transport ≡ 1 → port ≤ 65534) → leb port (most_port transport) ≡ true
port_in transport port h rtp = by (eqb transport 1) refl where
  by : (t : Bool) → eqb transport 1 ≡ t → leb port (cond t 65534 65535) ≡ true
  by true k = le-leb port 65534 (rtp (eqb-true transport 1 k))
  by false k = le-leb port 65535 h

left_of : (a : Bool) → (a || false) ≡ true → a ≡ true
left_of true h = refl
left_of false h = h

-- What may be absent: zero where it was not given.
given_range : (most given n : ℕ) → given_in most given n ≡ true → Given most given n
given_range most given n e =
    let k = both (leb given 1) (leb n most && (eqb given 1 || eqb n 0)) e in
    let l = both (leb n most) (eqb given 1 || eqb n 0) k.1 in
    record { flag = leb-true given 1 k.0; figure = leb-true n most l.0; absent = λ z. by z (eqb n 0) refl l.1 } where
      by : given ≡ 0 → (t : Bool) → eqb n 0 ≡ t → (eqb given 1 || t) ≡ true → n ≡ 0
      by z true h o = eqb-true n 0 h
      by z false h o = absurd (omega (arith, z, eqb-true given 1 (left_of (eqb given 1) o)))

given_in_lem : (most given n : ℕ) → Given most given n → given_in most given n ≡ true
given_in_lem most given n r = rw (le-leb given 1 r.flag, le-leb n most r.figure) (by (eqb given 1) refl) where
  by : (t : Bool) → eqb given 1 ≡ t → (t || eqb n 0) ≡ true
  by true e = refl
  by false e = eq-eqb n 0 (r.absent (omega (arith, r.flag, eqb-false given 1 e)))

pub media_range : (m : Media) → media_in m ≡ true → MediaRange m
unfolding media_in
media_range m e =
    let a = both (from1 6 m.kind) _ e in
    let b = both (from1 2 m.transport) _ a.1 in
    let c = both (from1 4 m.direction) _ b.1 in
    let d = both (leb m.port (most_port m.transport)) _ c.1 in
    let f = both (given_in 4294967295 m.known m.address) _ d.1 in
    let g = both (given_in 4294967295 m.requestedgiven m.requested) _ f.1 in
    let h = both (given_in 4294967295 m.rsgiven m.rs) _ g.1 in
    record {
      kind = range_1 6 m.kind a.0;
      transport = range_1 2 m.transport b.0;
      direction = range_1 4 m.direction c.0;
      port = (port_range m.transport m.port d.0).0;
      rtp = (port_range m.transport m.port d.0).1;
      address = given_range 4294967295 m.known m.address f.0;
      requested = given_range 4294967295 m.requestedgiven m.requested g.0;
      rs = given_range 4294967295 m.rsgiven m.rs h.0;
      rr = given_range 4294967295 m.rrgiven m.rr h.1;
    }

pub media_sound : (m : Media) → MediaRange m → media_in m ≡ true
unfolding media_in
media_sound m r =
    rw (
      in_1 6 m.kind r.kind,
      in_1 2 m.transport r.transport,
      in_1 4 m.direction r.direction,
      port_in m.transport m.port r.port r.rtp,
      given_in_lem 4294967295 m.known m.address r.address,
      given_in_lem 4294967295 m.requestedgiven m.requested r.requested,
      given_in_lem 4294967295 m.rsgiven m.rs r.rs,
      given_in_lem 4294967295 m.rrgiven m.rr r.rr,
    )

-- An unused description passes its test.
pub no_media_sound : is_no_media no_media ≡ true
unfolding is_no_media
no_media_sound = refl
