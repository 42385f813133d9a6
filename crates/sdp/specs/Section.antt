-- A section: the session section, then one for each `m=` line. What its lines have said so far, and what it says in the end.
use Rattle.std.specs.Prelude.{Result, Ok, Err}
use Rattle.sdp.specs.declared.fault.Fault.{Fault}
use Rattle.sdp.specs.declared.fault.Fault.TheVariants as fault
use Rattle.std.specs.Prelude.{ℕ, List, Bool, false, cond, ◌&&◌, eqb}
use Prim.Native.Char.{code}
use Rattle.cursor.specs.Cursor.{on_some}
use Rattle.sdp.specs.Connection.{connection_of}
use Rattle.sdp.specs.Bandwidth.{bandwidth_of}
use Rattle.sdp.specs.Fault.{fault_number}
use Rattle.sdp.specs.Direction.{sendrecv, direction_of, direction_number}
use Rattle.sdp.specs.declared.Address.{Address}
use Rattle.sdp.specs.declared.Media.{Media}
use Rattle.sdp.specs.declared.Requested.{Requested}
use Rattle.sdp.specs.declared.Spot.{Spot}
use Rattle.sdp.specs.declared.media_line.MediaLine.{MediaLine}
use Rattle.sdp.specs.declared.bandwidth.Rate.{Rate}
use Rattle.sdp.specs.declared.bandwidth.Rate.TheVariants as rate
use Rattle.sdp.specs.declared.section.Section.{Section}
use Rattle.sdp.specs.declared.section.Session.{Session}

abbrev pub no_address : Address
no_address = record { known = 0; bits = 0 }

-- no requested rate, and one of b bit/s
abbrev pub no_rate : Requested
no_rate = record { given = 0; bits = 0 }

abbrev pub some_rate : ℕ → Requested
some_rate b = record { given = 1; bits = b }

-- an unused description: all zeros
abbrev pub no_media : Media
no_media =
    record {
      address = 0;
      requested = 0;
      rs = 0;
      rr = 0;
      port = 0;
      kind = 0;
      transport = 0;
      direction = 0;
      known = 0;
      requestedgiven = 0;
      rsgiven = 0;
      rrgiven = 0;
    }

abbrev pub no_spot : Spot
no_spot = record { start = 0; end = 0; from = 0; to = 0 }

-- what may be absent has a flag: 0 where it is
abbrev pub absent : ℕ → Bool
absent given = eqb given 0

-- a section has no direction of its own, or none yet while its lines are read: 0
abbrev pub no_direction : ℕ → Bool
no_direction direction = eqb direction 0

-- a media section has no direction line, neither its own nor the session section's: the spot says that it ends at 0
abbrev pub no_direction_line : Spot → Bool
no_direction_line s = eqb s.to 0

-- the session section before its first line
abbrev pub no_section : Section
no_section = record { line = 0; media = no_media; tias = no_rate; spot = no_spot }

-- a section with another description, with TIAS; a description with an address, with a requested rate, RS or RR, with a direction
abbrev pub with_media : Section → Media → Section
with_media s m = record { line = s.line; media = m; tias = s.tias; spot = s.spot }

abbrev pub with_tias : Section → Requested → Section
with_tias s r = record { line = s.line; media = s.media; tias = r; spot = s.spot }

abbrev pub with_address : Media → Address → Media
with_address m a =
    record {
      address = a.bits;
      requested = m.requested;
      rs = m.rs;
      rr = m.rr;
      port = m.port;
      kind = m.kind;
      transport = m.transport;
      direction = m.direction;
      known = a.known;
      requestedgiven = m.requestedgiven;
      rsgiven = m.rsgiven;
      rrgiven = m.rrgiven;
    }

abbrev pub with_requested : Media → Requested → Media
with_requested m r =
    record {
      address = m.address;
      requested = r.bits;
      rs = m.rs;
      rr = m.rr;
      port = m.port;
      kind = m.kind;
      transport = m.transport;
      direction = m.direction;
      known = m.known;
      requestedgiven = r.given;
      rsgiven = m.rsgiven;
      rrgiven = m.rrgiven;
    }

abbrev pub with_rs : Media → ℕ → Media
with_rs m b =
    record {
      address = m.address;
      requested = m.requested;
      rs = b;
      rr = m.rr;
      port = m.port;
      kind = m.kind;
      transport = m.transport;
      direction = m.direction;
      known = m.known;
      requestedgiven = m.requestedgiven;
      rsgiven = 1;
      rrgiven = m.rrgiven;
    }

abbrev pub with_rr : Media → ℕ → Media
with_rr m b =
    record {
      address = m.address;
      requested = m.requested;
      rs = m.rs;
      rr = b;
      port = m.port;
      kind = m.kind;
      transport = m.transport;
      direction = m.direction;
      known = m.known;
      requestedgiven = m.requestedgiven;
      rsgiven = m.rsgiven;
      rrgiven = 1;
    }

abbrev pub with_direction : Media → ℕ → Media
with_direction m d =
    record {
      address = m.address;
      requested = m.requested;
      rs = m.rs;
      rr = m.rr;
      port = m.port;
      kind = m.kind;
      transport = m.transport;
      direction = d;
      known = m.known;
      requestedgiven = m.requestedgiven;
      rsgiven = m.rsgiven;
      rrgiven = m.rrgiven;
    }

-- the address of a description, and its requested rate
abbrev pub own_address : Media → Address
own_address m = record { known = m.known; bits = m.address }

abbrev pub own_requested : Media → Requested
own_requested m = record { given = m.requestedgiven; bits = m.requested }

-- `c=`: "At most one per section." A bad one, or a second, is 6
unfoldable pub connection_in : Section → List ℕ → Result Section Fault
connection_in s v =
    on_some (connection_of v) (Err fault.Connection) λ a.
    cond (absent s.media.known) (Ok (with_media s (with_address s.media a))) (Err fault.Connection)

-- `b=`: AS, RS and RR "each at most once"; "7 also for TIAS, .. at most once" (02, 7). A bad value, or a second, is 7. Until the section
-- ends its requested rate is its AS, and TIAS stands apart
unfoldable pub rate_in : Section → Rate → Result Section Fault
rate_in s (rate.As b) = cond (absent s.media.requestedgiven) (Ok (with_media s (with_requested s.media (some_rate b)))) (Err fault.Bandwidth)
rate_in s (rate.Tias b) = cond (absent s.tias.given) (Ok (with_tias s (some_rate b))) (Err fault.Bandwidth)
rate_in s (rate.Rs b) = cond (absent s.media.rsgiven) (Ok (with_media s (with_rs s.media b))) (Err fault.Bandwidth)
rate_in s (rate.Rr b) = cond (absent s.media.rrgiven) (Ok (with_media s (with_rr s.media b))) (Err fault.Bandwidth)
rate_in s rate.Other = Ok s

unfoldable pub bandwidth_in : Section → List ℕ → Result Section Fault
bandwidth_in s v = on_some (bandwidth_of v) (Err fault.Bandwidth) λ r. rate_in s r

-- a direction: "at most one in a media section". A second is 8; "8 is given for a second direction in the session section too" (02, 1).
-- Its line stands from `at` to before e
unfoldable pub direction_in : Section → List ℕ → ℕ → ℕ → Result Section Fault
direction_in s v at e =
    on_some (direction_of v) (Ok s) λ d.
    cond (no_direction s.media.direction)
    (Ok (record {
      line = s.line;
      media = with_direction s.media (direction_number d);
      tias = s.tias;
      spot = record { start = s.spot.start; end = s.spot.end; from = at; to = e };
    }))
    (Err fault.Direction)

-- a line other than `m=`, by its letter and its value: in the session section, or inside a media section. "Other modifiers, and all `b=` in the
-- session section, are passed over." "Lines not named below are passed over."
unfoldable pub line_in : Section → Bool → ℕ → List ℕ → ℕ → ℕ → Result Section Fault
line_in s inside l v at e =
    cond (eqb l (code "c")) (connection_in s v)
    (cond (inside && eqb l (code "b")) (bandwidth_in s v)
    (cond (eqb l (code "a")) (direction_in s v at e)
    (Ok s)))

-- the fault's number, 0 where there is none
abbrev pub fault_in : Result Section Fault → ℕ
fault_in (Ok s) = 0
fault_in (Err k) = fault_number k

-- "None means sendrecv."
abbrev pub or_sendrecv : ℕ → ℕ
or_sendrecv direction = cond (no_direction direction) sendrecv direction

-- what the session section says in the end: its address, and its direction with where that line stands
abbrev pub session_of : Section → Session
session_of s = record { address = own_address s.media; direction = or_sendrecv s.media.direction; from = s.spot.from; to = s.spot.to }

-- a media section after its `m=` line, the n-th of the text, which stands from `at` to before e. "The deciding line may be that session line"
-- (02, 1): its direction line is the session's until it has its own
abbrev pub begun : Session → MediaLine → ℕ → ℕ → ℕ → Section
begun session m n at e =
    record {
      line = n;
      media =
          record {
            address = 0;
            requested = 0;
            rs = 0;
            rr = 0;
            port = m.port;
            kind = m.kind;
            transport = m.transport;
            direction = 0;
            known = 0;
            requestedgiven = 0;
            rsgiven = 0;
            rrgiven = 0;
          };
      tias = no_rate;
      spot = record { start = at; end = e; from = session.from; to = session.to };
    }

-- "The session's [`c=`] serves a media section without its own."
abbrev pub own_or : Address → Address → Address
own_or session own = cond (absent own.known) session own

-- "The session section's direction now stands for a media section without one" (02, 1)
abbrev pub own_direction_or : ℕ → ℕ → ℕ
own_direction_or session own = cond (no_direction own) session own

-- "AS decides where present, else TIAS as it stands" (02, 7)
abbrev pub as_else_tias : Requested → Requested → Requested
as_else_tias by_as by-tias = cond (absent by_as.given) by-tias by_as

-- what a media section says in the end: its own address, direction and rate, or what stands for each
unfoldable pub closed : Session → Section → Media
closed session s =
    with_requested
    (with_direction (with_address s.media (own_or session.address (own_address s.media))) (own_direction_or session.direction s.media.direction))
    (as_else_tias (own_requested s.media) s.tias)

-- "A port other than 0 needs an address."
unfoldable pub lacks : Media → Bool
lacks m = cond (eqb m.port 0) false (absent m.known)
