-- Sections: what holds of a section at each of its lines, of its description in the end, and of the sections so far. Assumes nothing.
use Rattle.cursor.specs.Cursor.{on_some}
use Rattle.sdp.specs.Fault.{fault_number}
use Rattle.std.specs.Prelude.{Option, Some, None, Result, Ok, Err}
use Rattle.sdp.specs.declared.fault.Fault.{Fault}
use Rattle.sdp.specs.declared.fault.Fault.TheVariants as fault
use Rattle.sdp.specs.declared.Address.{Address}
use Rattle.sdp.specs.declared.direction.Direction.{Direction}
use Prim.Native.Nat.{ℕ, ◌≤◌, ◌<◌}
use Prim.Native.Char.{code}
use mathlib.Core.Path.{◌≡◌, refl}
use mathlib.Core.List.{List, [], ◌∷◌, ◌++◌}
use mathlib.Core.Bool.{Bool, true, false, cond, ◌&&◌}
use lib.ListN.{length-append}
use lib.Dec.{eqb}
use native.Mathlib.Omega.{arith}
use borrow.Author.Tests.{eqb-true, eqb-false}
use Rattle.cursor.proofs.Parts.{clash}
use Rattle.sdp.specs.Connection.{connection_of}
use Rattle.sdp.specs.Bandwidth.{bandwidth_of}
use Rattle.sdp.specs.Direction.{direction_of, direction_number}
use Rattle.sdp.specs.Section.{no_media, no_section, begun, with_media, with_address, with_direction, own_address, own_requested, session_of, closed, lacks}
use Rattle.sdp.specs.Section.{connection_in, rate_in, bandwidth_in, direction_in, line_in}
use Rattle.sdp.specs.Text.{Reading, in_session, in_media, media_lines, section_at, session_at, inside, replaced, next_section, most_media}
use Rattle.sdp.specs.Range.{Given, KnownAddress, GivenRate, MediaRange}
use Rattle.sdp.specs.declared.Media.{Media}
use Rattle.sdp.specs.declared.media_line.MediaLine.{MediaLine}
use Rattle.sdp.specs.declared.bandwidth.Rate.{Rate}
use Rattle.sdp.specs.declared.bandwidth.Rate.TheVariants as rate
use Rattle.sdp.specs.declared.section.Section.{Section}
use Rattle.sdp.specs.declared.section.Session.{Session}
use Rattle.sdp.proofs.Said.{Faulty, on_cond, Headed, ConnectionSaid, connection_said, RateSaid, BandwidthSaid, bandwidth_said, direction_range}

-- what may be absent of a description
pub record GivenAll (m : Media) : Type 0 where
  pub address : Given 4294967295 m.known m.address
  pub requested : Given 4294967295 m.requestedgiven m.requested
  pub rs : Given 4294967295 m.rsgiven m.rs
  pub rr : Given 4294967295 m.rrgiven m.rr

-- what holds of a section so far, in a text of so many bytes and lines. `inside` says that it is a media section: its `m=` line has been.
-- Direction 0 is none yet
pub record Fine (len lines : ℕ) (inside : Bool) (s : Section) : Type 0 where
  pub begun : inside ≡ true
      → Headed s.media.kind s.media.transport s.media.port × ((1 ≤ s.line) × (s.line ≤ lines)) × ((s.spot.start < s.spot.end) × (s.spot.end ≤ len))
  pub from : (s.spot.from ≤ s.spot.to) × (s.spot.to ≤ len)
  pub direction : s.media.direction ≤ 4
  pub given : GivenAll s.media
  pub tias : GivenRate s.tias

none_given : (most : ℕ) → Given most 0 0
none_given most = record { flag = omega arith; figure = omega arith; absent = λ z. refl }

nothing_given : GivenAll no_media
nothing_given = record { address = none_given _; requested = none_given _; rs = none_given _; rr = none_given _ }

one_given : (most n : ℕ) → n ≤ most → Given most 1 n
one_given most n h = record { flag = omega arith; figure = h; absent = λ z. absurd (omega (arith, z)) }

-- an answer about a section: a section of which P holds, or a fault
abbrev pub Tells : (Section → Type 0) → Result Section Fault → Type 0
Tells P (Ok s) = P s
Tells P (Err k) = Faulty (fault_number k)

module _ (len lines : ℕ) where
  -- before its first line
  pub session_begins : Fine len lines false no_section
  session_begins = record { begun = λ e. clash (cc); from = omega arith; direction = omega arith; given = nothing_given; tias = none_given _ }

  -- what holds of what the session section says in the end
  pub record Served (x : Session) : Type 0 where
    pub address : KnownAddress x.address
    pub from : (x.from ≤ x.to) × (x.to ≤ len)
    pub direction : (1 ≤ x.direction) × (x.direction ≤ 4)

  pub serves : (inside : Bool) (s : Section) → Fine len lines inside s → Served (session_of s)
  serves inside s h = record { address = h.given.address; from = h.from; direction = by (eqb s.media.direction 0) refl } where
    by : (t : Bool) → eqb s.media.direction 0 ≡ t → (1 ≤ cond t 1 s.media.direction) × (cond t 1 s.media.direction ≤ 4)
    by true e = omega arith
    by false e = omega (arith, eqb-false s.media.direction 0 e, h.direction)

  pub media_begins : (x : Session) → Served x → (m : MediaLine) (n at e : ℕ) → Headed m.kind m.transport m.port → (1 ≤ n) × (n ≤ lines) → (at < e) × (e ≤ len)
      → Fine len lines true (begun x m n at e)
  media_begins x k m n at e h i j =
      record {
        begun = λ z. (h, i, j);
        from = k.from;
        direction = omega arith;
        given = record { address = none_given _; requested = none_given _; rs = none_given _; rr = none_given _ };
        tias = none_given _;
      }

  -- each line keeps it
  module _ (inside : Bool) (s : Section) (h : Fine len lines inside s) where
    abbrev Keeps : Result Section Fault → Type 0
    Keeps = Tells (Fine len lines inside)

    connection_in_lem : (v : List ℕ) → Keeps (connection_in s v)
    unfolding connection_in
    connection_in_lem v = by (connection_of v) (connection_said v) where
      by : (c : Option Address) → ConnectionSaid c
          → Keeps (on_some c (Err fault.Connection) λ a. cond (eqb s.media.known 0) (Ok (with_media s (with_address s.media a))) (Err fault.Connection))
      by (Some a) k =
          on_cond Keeps (eqb s.media.known 0)
          (record {
            begun = h.begun;
            from = h.from;
            direction = h.direction;
            given = record { address = k; requested = h.given.requested; rs = h.given.rs; rr = h.given.rr };
            tias = h.tias;
          })
          (omega arith)
      by None k = omega arith

    rate_in_lem : (r : Rate) → RateSaid r → Keeps (rate_in s r)
    unfolding rate_in
    rate_in_lem (rate.As b) i =
        on_cond Keeps (eqb s.media.requestedgiven 0)
        (record {
          begun = h.begun;
          from = h.from;
          direction = h.direction;
          given = record { address = h.given.address; requested = one_given 4294967295 b i; rs = h.given.rs; rr = h.given.rr };
          tias = h.tias;
        })
        (omega arith)
    rate_in_lem (rate.Tias b) i =
        on_cond Keeps (eqb s.tias.given 0)
        (record { begun = h.begun; from = h.from; direction = h.direction; given = h.given; tias = one_given 4294967295 b i })
        (omega arith)
    rate_in_lem (rate.Rs b) i =
        on_cond Keeps (eqb s.media.rsgiven 0)
        (record {
          begun = h.begun;
          from = h.from;
          direction = h.direction;
          given = record { address = h.given.address; requested = h.given.requested; rs = one_given 4294967295 b i; rr = h.given.rr };
          tias = h.tias;
        })
        (omega arith)
    rate_in_lem (rate.Rr b) i =
        on_cond Keeps (eqb s.media.rrgiven 0)
        (record {
          begun = h.begun;
          from = h.from;
          direction = h.direction;
          given = record { address = h.given.address; requested = h.given.requested; rs = h.given.rs; rr = one_given 4294967295 b i };
          tias = h.tias;
        })
        (omega arith)
    rate_in_lem rate.Other i = h

    bandwidth_in_lem : (v : List ℕ) → Keeps (bandwidth_in s v)
    unfolding bandwidth_in
    bandwidth_in_lem v = by (bandwidth_of v) (bandwidth_said v) where
      by : (b : Option Rate) → BandwidthSaid b → Keeps (on_some b (Err fault.Bandwidth) λ r. rate_in s r)
      by (Some r) i = rate_in_lem r i
      by None i = omega arith

    direction_in_lem : (v : List ℕ) (at e : ℕ) → (at ≤ e) × (e ≤ len) → Keeps (direction_in s v at e)
    unfolding direction_in
    direction_in_lem v at e i = by (direction_of v) where
      by : (w : Option Direction)
          → Keeps (on_some w (Ok s) λ d. cond (eqb s.media.direction 0)
          (Ok (record {
            line = s.line;
            media = with_direction s.media (direction_number d);
            spot = record { start = s.spot.start; end = s.spot.end; from = at; to = e };
            tias = s.tias;
          }))
          (Err fault.Direction))
      by (Some d) =
          on_cond Keeps (eqb s.media.direction 0)
          (record {
            begun = h.begun;
            from = i;
            direction = (direction_range d).1;
            given = record { address = h.given.address; requested = h.given.requested; rs = h.given.rs; rr = h.given.rr };
            tias = h.tias;
          })
          (omega arith)
      by None = h

    pub line_in_lem : (l : ℕ) (v : List ℕ) (at e : ℕ) → (at ≤ e) × (e ≤ len) → Keeps (line_in s inside l v at e)
    unfolding line_in
    line_in_lem l v at e i =
        on_cond Keeps (eqb l (code "c")) (connection_in_lem v)
        (on_cond Keeps (inside && eqb l (code "b")) (bandwidth_in_lem v) (on_cond Keeps (eqb l (code "a")) (direction_in_lem v at e i) h))

  -- what a media section says in the end
  module _ (x : Session) (s : Section) (k : Served x) (h : Fine len lines true s) where
    own_or_session : (t : Bool) → eqb s.media.direction 0 ≡ t
        → (1 ≤ cond t x.direction s.media.direction) × (cond t x.direction s.media.direction ≤ 4)
    own_or_session true e = k.direction
    own_or_session false e = omega (arith, eqb-false s.media.direction 0 e, h.direction)

    pub described : MediaRange (closed x s)
    unfolding closed
    described =
        record {
          kind = (h.begun refl).0.kind;
          transport = (h.begun refl).0.transport;
          direction = own_or_session (eqb s.media.direction 0) refl;
          port = (h.begun refl).0.port;
          rtp = (h.begun refl).0.rtp;
          address = on_cond KnownAddress (eqb s.media.known 0) {a = x.address} {b = own_address s.media} k.address h.given.address;
          requested = on_cond GivenRate (eqb s.media.requestedgiven 0) {a = s.tias} {b = own_requested s.media} h.tias h.given.requested;
          rs = h.given.rs;
          rr = h.given.rr;
        }

-- "A port other than 0 needs an address"
pub has_address : (m : Media) → m.known ≤ 1 → lacks m ≡ false → (m.port ≡ 0 → ⊥) → m.known ≡ 1
unfolding lacks
has_address m h e p = by (eqb m.port 0) (eqb m.known 0) refl refl e where
  by : (t u : Bool) → eqb m.port 0 ≡ t → eqb m.known 0 ≡ u → cond t false u ≡ false → m.known ≡ 1
  by true u a b z = absurd (p (eqb-true _ _ a))
  by false true a b z = clash (cc)
  by false false a b z = omega (arith, eqb-false m.known 0 b, h)

-- P holds of each of a list
abbrev pub Every : {A : Type 0} → (A → Type 0) → List A → Type 0
Every P [] = Unit {0}
Every P (x ∷ xs) = P x × Every P xs

module _ {A : Type 0} (P : A → Type 0) where
  pub every_snoc : (l : List A) (x : A) → Every P l → P x → Every P (l ++ (x ∷ []))
  every_snoc [] x h p = (p, tt)
  every_snoc (y ∷ l) x h p = (h.0, every_snoc l x h.1 p)

module _ (len lines : ℕ) where
  -- what holds of what has ended: the session section, and media sections
  abbrev pub Passed : Reading → Type 0
  Passed (in_session here) = Unit {0}
  Passed (in_media session ended here) = Served len lines session × Every (Fine len lines true) ended

  -- where reading stands
  pub record Standing (p : Reading) : Type 0 where
    pub few : media_lines p ≤ most_media
    pub passed : Passed p
    pub section : Fine len lines (inside p) (section_at p)

  pub served_at : (p : Reading) → Standing p → Served len lines (session_at p)
  served_at (in_session here) h = serves len lines false here h.section
  served_at (in_media session ended here) h = h.passed.0

  -- a line replaces the section that it stands in
  pub same_section : (p : Reading) (s : Section) → Standing p → Fine len lines (inside p) s → Standing (replaced p s)
  same_section (in_session here) s h k = record { few = h.few; passed = tt; section = k }
  same_section (in_media session ended here) s h k = record { few = h.few; passed = h.passed; section = k }

  -- an `m=` line ends a section and begins the next
  pub next_section_lem : (p : Reading) (s : Section) → media_lines p < most_media → Standing p → Fine len lines true s → Standing (next_section p s)
  next_section_lem (in_session here) s few h k = record { few = omega arith; passed = (serves len lines false here h.section, tt); section = k }
  next_section_lem (in_media session ended here) s few h k =
      record {
        few = omega (arith, few, length-append ended (here ∷ []));
        passed = (h.passed.0, every_snoc (Fine len lines true) ended here h.passed.1 h.section);
        section = k;
      }
