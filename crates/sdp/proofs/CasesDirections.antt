-- Refusal 8: directions, of media sections and of the session section: computed. Assumes nothing.
use Prim.Native.Nat.{ℕ}
use Prim.Native.String.{String}
use mathlib.Core.Path.{◌≡◌, refl}
use mathlib.Core.List.{List, [], ◌∷◌, ◌++◌, map}
use mathlib.Core.Bool.{true, false}
use lib.ListN.{take, replicate}
use Rattle.cursor.specs.Bytes.{bytes}
use Rattle.sdp.specs.declared.Address.{Address}
use Rattle.sdp.specs.declared.Media.{Media}
use Rattle.sdp.specs.declared.section.Section.{Section}
use Rattle.std.specs.Prelude.{Ok, Err}
use Rattle.sdp.specs.declared.fault.Fault.TheVariants as fault
use Rattle.sdp.specs.Section.{no_address, no_section, no_direction_line, with_media, with_address, with_direction, begun, direction_in, session_of, closed, fault_in}
use Rattle.sdp.specs.Text.{read_text}
use Rattle.sdp.proofs.Computing.{computing}
use Rattle.sdp.proofs.Cases.{Told, told, first}

-- "Direction: `a=sendrecv`, `sendonly`, `recvonly`, `inactive`, exactly .. none means sendrecv": 1 to 4.
abbrev read : String → ℕ
read more = (first (bytes "v=0\nm=audio 0 udp 0\n" ++ bytes more)).direction

pub directions : map read
    (""
    ∷ "a=sendrecv\n"
    ∷ "a=sendonly\n"
    ∷ "a=recvonly\n"
    ∷ "a=inactive\n"
    ∷ "a=ptime:20\nb=AS:1\na=recvonly\r\na=x\n"
    -- before the other lines of its section, and beside the address 0.0.0.0, which is no hold
    ∷ "a=recvonly\nc=IN IP4 1.2.3.4\nb=AS:1\nb=RS:1\nb=RR:1\n"
    ∷ "c=IN IP4 0.0.0.0\n"
    ∷ "c=IN IP4 0.0.0.0\na=sendonly\n"
    ∷ [])
    ≡ 1 ∷ 1 ∷ 2 ∷ 3 ∷ 4 ∷ 3 ∷ 3 ∷ 1 ∷ 2 ∷ []
unfolding computing
directions = refl

-- .. the whole line: with more or less than the word it is passed over, and is no second one.
pub no_directions : map read
    ("a=\n"
    ∷ "a=sendonly \n"
    ∷ "a= sendonly\n"
    ∷ "a=sendonly:1\n"
    ∷ "a=sendonl\n"
    ∷ "a=Sendonly\n"
    ∷ "a=SENDONLY\n"
    ∷ "a=RECVONLY\n"
    ∷ "a=INACTIVE\n"
    ∷ "a=recvonlyx\n"
    ∷ "a=inactiv\n"
    ∷ "a=inactive.\n"
    ∷ "a=sendrec\na=sendrecvx\n"
    ∷ "b=inactive\n"
    ∷ "s=inactive\n"
    ∷ "x=inactive\n"
    ∷ [])
    ≡ replicate 16 1
unfolding computing
no_directions = refl

-- ".. at most one in a media section": a second is 8, equal or not, also where the port is 0.
pub second : Told (λ more. bytes "v=0\n" ++ bytes more)
    (("m=a 0 udp 0\na=sendonly\na=sendonly\n", 8, 4)
    ∷ ("m=a 0 udp 0\na=sendrecv\na=inactive\n", 8, 4)
    ∷ ("m=a 0 udp 0\na=sendrecv\na=sendrecv\n", 8, 4)
    ∷ ("m=a 0 udp 0\na=sendrecv\nc=IN IP4 1.2.3.4\nb=AS:1\na=sendrecv\n", 8, 6)
    ∷ ("m=a 0 udp 0\na=inactive\na=x\nb=AS:1\na=recvonly\n", 8, 6)
    ∷ ("m=a 0 udp 0\na=recvonly\na=sendrecv\n", 8, 4)
    ∷ ("m=a 0 udp 0\na=sendonly\na=sendonly \n", 0, 0)
    ∷ ("m=a 0 udp 0\na=sendrecv \na=inactive\n", 0, 0)
    ∷ ("m=a 0 udp 0\na=sendrecvx\na=SENDRECV\na=inactive\n", 0, 0)
    ∷ ("m=a 0 udp 0\na=sendonly\nm=a 0 udp 0\na=sendonly\n", 0, 0)
    ∷ ("m=a 0 udp 0\na=sendonly\nm=a 0 udp 0\na=sendonly\na=sendonly\n", 8, 6)
    ∷ [])
unfolding computing
second = refl

-- "8 is given for a second direction in the session section too" (02, 1): equal or not, with and without `m=` lines, also where each media
-- section has its own. One there and one in a media section are good.
pub second_session : Told (λ more. bytes "v=0\n" ++ bytes more)
    (("a=sendonly\n", 0, 0)
    ∷ ("a=sendonly\na=inactive\n", 8, 3)
    ∷ ("a=sendonly\na=sendonly\n", 8, 3)
    ∷ ("a=sendrecv\na=sendrecv\n", 8, 3)
    ∷ ("a=sendrecv\na=recvonly\n", 8, 3)
    ∷ ("a=inactive\na=sendrecv\nm=a 0 udp 0\n", 8, 3)
    ∷ ("a=recvonly\na=recvonly\nm=a 0 udp 0\n", 8, 3)
    ∷ ("a=sendonly\na=sendonly\nm=a 0 udp 0\na=sendonly\n", 8, 3)
    ∷ ("a=sendrecv\r\nc=IN IP4 1.2.3.4\nb=AS:x\na=x\na=sendrecv\nm=a 9 udp 0\n", 8, 6)
    ∷ ("a=sendonly \na=sendonly\na=Sendonly\na=sendonly:1\nx=sendonly\nb=sendonly\nm=a 0 udp 0\n", 0, 0)
    ∷ ("a=sendonly\nm=a 0 udp 0\na=sendonly\n", 0, 0)
    ∷ ("a=sendonly\nm=a 0 udp 0\na=inactive\nm=a 0 udp 0\nm=a 0 udp 0\na=recvonly\n", 0, 0)
    ∷ ("a=sendonly\nm=a 0 udp 0\na=sendonly\na=sendonly\n", 8, 5)
    ∷ ("a=sendonly\nm=a 0 udp 0\nm=a 0 udp 0\na=recvonly\na=sendonly\n", 8, 6)
    -- in the order of the lines
    ∷ ("a=sendonly\na=sendonly\nc=x\n", 8, 3)
    ∷ ("c=x\na=sendonly\na=sendonly\n", 6, 2)
    ∷ ("a=sendonly\nx\na=sendonly\n", 2, 3)
    ∷ ("a=sendonly\nm=a 9 tcp 0\na=sendonly\na=sendonly\n", 4, 3)
    -- before 9
    ∷ ("a=sendonly\nm=a 9 udp 0\n", 9, 3)
    ∷ ("a=sendonly\na=sendonly\nm=a 9 udp 0\n", 8, 3)
    ∷ [])
unfolding computing
second_session = refl

-- .. whatever the two say
abbrev four : List String
four = "a=sendrecv\n" ∷ "a=sendonly\n" ∷ "a=recvonly\n" ∷ "a=inactive\n" ∷ []

pub every_second : map (λ (x : String). map (λ (y : String). told (bytes "v=0\n" ++ bytes x ++ bytes y ++ bytes "m=a 0 udp 0\n")) four) four
    ≡ replicate 4 (replicate 4 (8, 3))
unfolding computing
every_second = refl

-- "The session section's direction now stands for a media section without one" (02, 1); the own one wins. Each direction of the session
-- section, and none, over each own one, and none.
abbrev written : List String
written = "" ∷ four

abbrev under : String → String → ℕ
under session own = (first (bytes "v=0\n" ++ bytes session ++ bytes "m=audio 0 udp 0\n" ++ bytes own)).direction

pub stands : map (λ (session : String). map (under session) written) written
    ≡ (1 ∷ 1 ∷ 2 ∷ 3 ∷ 4 ∷ [])
    ∷ (1 ∷ 1 ∷ 2 ∷ 3 ∷ 4 ∷ [])
    ∷ (2 ∷ 1 ∷ 2 ∷ 3 ∷ 4 ∷ [])
    ∷ (3 ∷ 1 ∷ 2 ∷ 3 ∷ 4 ∷ [])
    ∷ (4 ∷ 1 ∷ 2 ∷ 3 ∷ 4 ∷ [])
    ∷ []
unfolding computing
stands = refl

-- .. for each media section without one, the first and the last too. One after an `m=` line serves no other section.
abbrev five : String → List ℕ
five session =
    take 5 (map (λ (m : Media). m.direction) (read_text (bytes "v=0\n" ++ bytes session
    ++ bytes "m=a 0 udp 0\nm=a 0 udp 0\na=sendonly\nm=a 0 udp 0\nm=a 0 udp 0\na=sendrecv\nm=a 0 udp 0\n")).media)

pub each_section : map five ("" ∷ "a=inactive\n" ∷ "a=recvonly\n" ∷ "a=sendrecv\n" ∷ [])
    ≡ (1 ∷ 2 ∷ 1 ∷ 1 ∷ 1 ∷ [])
    ∷ (4 ∷ 2 ∷ 4 ∷ 1 ∷ 4 ∷ [])
    ∷ (3 ∷ 2 ∷ 3 ∷ 1 ∷ 3 ∷ [])
    ∷ (1 ∷ 2 ∷ 1 ∷ 1 ∷ 1 ∷ [])
    ∷ []
unfolding computing
each_section = refl

-- on any line before the first `m=`, and by the same exact bytes
abbrev before : String → ℕ
before more = (first (bytes "v=0\n" ++ bytes more ++ bytes "m=audio 9 udp 0\n")).direction

pub anywhere : map before
    ("a=sendonly\nc=IN IP4 1.2.3.4\n"
    ∷ "c=IN IP4 1.2.3.4\na=sendonly\n"
    ∷ "o=-\ns=-\nc=IN IP4 1.2.3.4\nt=0 0\na=sendonly\r\nk=x\n"
    ∷ "a=x\na=sendonly\na=group:LS\nb=AS:1\nc=IN IP4 1.2.3.4\r\n"
    -- between all the lines of RFC 2327, the fourteenth of the text
    ∷ "o=-\ns=-\ni=-\nu=-\ne=-\np=-\nc=IN IP4 1.2.3.4\nb=CT:9\nt=0 0\nr=1 1 0\nz=0 0\nk=x\na=sendonly\na=tool:x\n"
    ∷ "a=sendonly\no=-\ns=-\ni=-\nu=-\ne=-\np=-\nc=IN IP4 1.2.3.4\nb=CT:9\nt=0 0\nr=1 1 0\nz=0 0\nk=x\na=tool:x\n"
    -- .. and 0.0.0.0 is no hold
    ∷ "c=IN IP4 0.0.0.0\n"
    ∷ [])
    ≡ 2 ∷ 2 ∷ 2 ∷ 2 ∷ 2 ∷ 2 ∷ 1 ∷ []
unfolding computing
anywhere = refl

pub no_session_directions : map (λ (more : String). before more)
    ("c=IN IP4 1.2.3.4\na=\n"
    ∷ "c=IN IP4 1.2.3.4\na=sendonly \n"
    ∷ "c=IN IP4 1.2.3.4\na= sendonly\n"
    ∷ "c=IN IP4 1.2.3.4\na=sendonly:1\n"
    ∷ "c=IN IP4 1.2.3.4\na=Sendonly\n"
    ∷ "c=IN IP4 1.2.3.4\na=SENDONLY\n"
    ∷ "c=IN IP4 1.2.3.4\na=inactivx\n"
    ∷ "c=IN IP4 1.2.3.4\nb=inactive\n"
    ∷ "c=IN IP4 1.2.3.4\ns=inactive\n"
    ∷ [])
    ≡ replicate 9 1
unfolding computing
no_session_directions = refl

-- a line of a media section that is no direction leaves the session's to stand for it
pub none_of_its_own : map (λ (own : String). (first (bytes "v=0\na=sendonly\nm=audio 0 udp 0\n" ++ bytes own)).direction)
    ("a=\n"
    ∷ "a=sendrecv \n"
    ∷ "a= sendrecv\n"
    ∷ "a=sendrecvx\n"
    ∷ "a=inactive:1\n"
    ∷ "a=SENDRECV\n"
    ∷ "b=sendrecv\n"
    ∷ "c=IN IP4 1.2.3.4\nb=AS:1\nb=RS:1\nb=RR:1\na=ptime:20\nk=x\n"
    ∷ [])
    ≡ replicate 8 2
unfolding computing
none_of_its_own = refl

-- all eight media sections
pub eight_sections : map (λ (m : Media). m.direction) (read_text (bytes "v=0\na=recvonly\nm=a 0 udp 0\nm=a 0 udp 0\nm=a 0 udp 0\nm=a 0 udp 0\n"
    ++ bytes "m=a 0 udp 0\nm=a 0 udp 0\nm=a 0 udp 0\nm=a 0 udp 0\n")).media ≡ replicate 8 3
unfolding computing
eight_sections = refl

-- a live port needs an address on hold too
pub held_without_address : Told (λ more. bytes "v=0\n" ++ bytes more)
    (("a=inactive\nm=a 9 udp 0\n", 9, 3) ∷ ("m=a 9 udp 0\na=inactive\n", 9, 2) ∷ ("a=inactive\nm=a 9 udp 0\na=sendrecv\n", 9, 3) ∷ [])
unfolding computing
held_without_address = refl

-- What a media section says in the end, of every kind, by either transport, with port 0 and a live one: the direction, a row for each of the
-- session's and a column for none and each own one, whatever the addresses; the address, the section's own or else the session's, whatever the directions.
abbrev section : ℕ → ℕ → ℕ → Address → ℕ → Section
section kind transport port own direction =
    with_media (begun (session_of no_section) (record { kind = kind; transport = transport; port = port }) 2 4 15)
    (with_direction (with_address (begun (session_of no_section) (record { kind = kind; transport = transport; port = port }) 2 4 15).media own) direction)

abbrev ends : Address → ℕ → Section → Media
ends address direction s = closed (record { address = address; direction = direction; from = 0; to = 0 }) s

abbrev known : ℕ → Address
known bits = record { known = 1; bits = bits }

abbrev directions_closed : Address → (Address → ℕ → Section) → Address → List (List ℕ)
directions_closed address s own = map (λ d. map (λ e. (ends address d (s own e)).direction) (0 ∷ 1 ∷ 2 ∷ 3 ∷ 4 ∷ [])) (1 ∷ 2 ∷ 3 ∷ 4 ∷ [])

abbrev rows : List (List ℕ)
rows = (1 ∷ 1 ∷ 2 ∷ 3 ∷ 4 ∷ []) ∷ (2 ∷ 1 ∷ 2 ∷ 3 ∷ 4 ∷ []) ∷ (3 ∷ 1 ∷ 2 ∷ 3 ∷ 4 ∷ []) ∷ (4 ∷ 1 ∷ 2 ∷ 3 ∷ 4 ∷ []) ∷ []

abbrev addresses : List Address
addresses = no_address ∷ known 0 ∷ known 7 ∷ []

abbrev every_section : {A : Type 0} → ((Address → ℕ → Section) → A) → List A
every_section f =
    map (λ kind. f (section kind 1 0)) (1 ∷ 2 ∷ 3 ∷ 4 ∷ 5 ∷ 6 ∷ [])
    ++ map (λ kind. f (section kind 1 9)) (1 ∷ 2 ∷ 3 ∷ 4 ∷ 5 ∷ 6 ∷ [])
    ++ map (λ kind. f (section kind 2 0)) (1 ∷ 2 ∷ 3 ∷ 4 ∷ 5 ∷ 6 ∷ [])
    ++ map (λ kind. f (section kind 2 9)) (1 ∷ 2 ∷ 3 ∷ 4 ∷ 5 ∷ 6 ∷ [])

pub every_direction : every_section (λ s. map (λ session. map (directions_closed session s) addresses) addresses)
    ≡ replicate 24 (replicate 3 (replicate 3 rows))
unfolding computing
every_direction = refl

-- the address of an end: known and its number
abbrev addresses_closed : (Address → ℕ → Section) → Address → Address → List (List (ℕ × ℕ))
addresses_closed s session own =
    map (λ d. map (λ e. ((ends session d (s own e)).known, (ends session d (s own e)).address)) (0 ∷ 1 ∷ 2 ∷ 3 ∷ 4 ∷ [])) (1 ∷ 2 ∷ 3 ∷ 4 ∷ [])

abbrev all : ℕ × ℕ → List (List (ℕ × ℕ))
all a = replicate 4 (replicate 5 a)

pub every_address : every_section (λ s. map (addresses_closed s (known 5)) addresses ++ map (addresses_closed s no_address) addresses)
    ≡ replicate 24 (all (1, 5) ∷ all (1, 0) ∷ all (1, 7) ∷ all (0, 0) ∷ all (1, 0) ∷ all (1, 7) ∷ [])
unfolding computing
every_address = refl

-- the fault of such a line, 0 where there is none
pub faults : (fault_in (Ok no_section) ≡ 0) × (fault_in (direction_in no_section (bytes "sendonly") 9 19) ≡ 0) × (fault_in (Err fault.Direction) ≡ 8)
unfolding computing
faults = (refl, refl, refl)

-- a media section has no direction line, neither its own nor the session's, exactly if that ends at 0
pub has_line : (no_direction_line (record { start = 4; end = 19; from = 0; to = 0 }) ≡ true)
    × (no_direction_line (record { start = 4; end = 19; from = 0; to = 1 }) ≡ false)
    × (no_direction_line (record { start = 4; end = 19; from = 20; to = 30 }) ≡ false)
unfolding computing
has_line = (refl, refl, refl)
