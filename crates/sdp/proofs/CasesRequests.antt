-- What the rate lines of a section request, and a text without the TIAS lines that stand beside an AS line: computed. Assumes nothing.
use Prim.Native.Nat.{ℕ}
use Prim.Native.String.{String}
use mathlib.Core.Path.{◌≡◌, refl}
use mathlib.Core.List.{List, [], ◌∷◌, map}
use mathlib.Core.Bool.{true, false}
use lib.ListN.{replicate}
use Rattle.cursor.specs.Bytes.{split, bytes}
use Rattle.sdp.specs.Line.{lf}
use Rattle.sdp.specs.Section.{no_rate, some_rate}
use Rattle.sdp.specs.Requests.{as_of, tias_of, rate_line, rate_among, requested_by, section_lines, media_sections, has_as, is_tias_line, without_tias}
use Rattle.sdp.specs.declared.Requested.{Requested}
use Rattle.sdp.proofs.Computing.{computing}

abbrev cut : String → List (List ℕ)
cut t = split lf (bytes t)

abbrev none : Requested
none = record { given = 0; bits = 0 }

abbrev some : ℕ → Requested
some b = record { given = 1; bits = b }

-- no rate, and one
pub rates : (no_rate ≡ none) × (some_rate 7 ≡ some 7)
unfolding computing
rates = (refl, refl)

-- what one line says of AS, and of TIAS
abbrev lines : List String
lines = "b=AS:64" ∷ "b=TIAS:64001" ∷ "b=RS:5" ∷ "b=RR:6" ∷ "b=CT:7" ∷ "b=AS:x" ∷ "b=TIAS:x" ∷ "a=AS:64" ∷ "a=TIAS:64001" ∷ "" ∷ []

pub said_of_as : map (λ (l : String). rate_line as_of (bytes l)) lines ≡ some 64000 ∷ replicate 9 none
unfolding computing
said_of_as = refl

pub said_of_tias : map (λ (l : String). rate_line tias_of (bytes l)) lines ≡ none ∷ some 64001 ∷ replicate 8 none
unfolding computing
said_of_tias = refl

-- the lines of a section, up to the next `m=` line, without their endings
pub section_cut : map (λ (t : String). section_lines (cut t))
    ("b=AS:1\nb=TIAS:2\r\nm=a 0 udp 0\nb=RS:3\n" ∷ "a=x\nc=y\n" ∷ "a=x\nb=AS:1" ∷ "m=a 0 udp 0\nb=AS:1\n" ∷ "" ∷ "x" ∷ [])
    ≡ (bytes "b=AS:1" ∷ bytes "b=TIAS:2" ∷ []) ∷ (bytes "a=x" ∷ bytes "c=y" ∷ []) ∷ (bytes "a=x" ∷ []) ∷ [] ∷ [] ∷ [] ∷ []
unfolding computing
section_cut = refl

pub nothing_cut : (section_lines [] ≡ []) × (media_sections [] ≡ []) × (without_tias true [] ≡ [])
unfolding computing
nothing_cut = (refl, refl, refl)

-- of each media section, and none of the session section's
pub sections_cut : map (λ (t : String). media_sections (cut t))
    ("v=0\nb=AS:1\nm=a 0 udp 0\nb=AS:2\nm=b 0 udp 0\nm=c 0 udp 0\nb=TIAS:3\nb=RS:4\n" ∷ "v=0\nb=AS:1\n" ∷ "v=0\nm=a 0 udp 0" ∷ "v=0" ∷ [])
    ≡ ((bytes "b=AS:2" ∷ []) ∷ [] ∷ (bytes "b=TIAS:3" ∷ bytes "b=RS:4" ∷ []) ∷ []) ∷ [] ∷ [] ∷ [] ∷ []
unfolding computing
sections_cut = refl

-- "AS decides where present, else TIAS as it stands", in either order, AS:0 too; TIAS:0 is present
pub requested_by_lem : map (λ (t : String). requested_by (section_lines (cut t)))
    ("b=AS:64\n"
    ∷ "b=TIAS:64001\n"
    ∷ "b=AS:64\nb=TIAS:64001\n"
    ∷ "b=TIAS:64001\nb=AS:64\n"
    ∷ "b=AS:0\nb=TIAS:64001\n"
    ∷ "b=TIAS:64001\na=x\nb=AS:0\n"
    ∷ "b=TIAS:0\n"
    ∷ "b=RS:1\nb=RR:2\n"
    ∷ "c=x\nb=TIAS:4\na=y\n"
    ∷ "b=TIAS:4\nm=a 0 udp 0\nb=AS:5\n"
    ∷ "b=AS:4"
    ∷ [])
    ≡ some 64000 ∷ some 64001 ∷ some 64000 ∷ some 64000 ∷ some 0 ∷ some 0 ∷ some 0 ∷ none ∷ some 4 ∷ some 4 ∷ none ∷ []
unfolding computing
requested_by_lem = refl

-- .. of two the last
pub last_of_two : (rate_among as_of (bytes "b=AS:1" ∷ bytes "b=AS:2" ∷ []) ≡ some 2000) × (rate_among tias_of (bytes "b=TIAS:1" ∷ bytes "b=TIAS:2" ∷ []) ≡ some 2)
    × (rate_among as_of (bytes "b=AS:2" ∷ bytes "b=AS:1" ∷ []) ≡ some 1000) × (rate_among tias_of (bytes "b=TIAS:2" ∷ bytes "b=TIAS:1" ∷ []) ≡ some 1)
    × (rate_among as_of [] ≡ none)
unfolding computing
last_of_two = (refl, refl, refl, refl, refl)

-- an AS line before the next `m=` line; what has no ending is none
pub as_seen : map (λ (t : String). has_as (cut t))
    ("b=AS:1\n" ∷ "b=TIAS:1\na=x\nb=AS:0\r\n" ∷ "b=TIAS:1\n" ∷ "b=AS:1" ∷ "m=a 0 udp 0\nb=AS:1\n" ∷ "b=AS:x\n" ∷ "" ∷ [])
    ≡ true ∷ true ∷ false ∷ false ∷ false ∷ false ∷ false ∷ []
unfolding computing
as_seen = refl

-- a TIAS line, with the form of a line
pub tias_lines : map (λ (l : String). is_tias_line (bytes l))
    ("b=TIAS:1" ∷ "b=TIAS:1\r" ∷ "b=TIAS:0" ∷ "b=AS:1" ∷ "b=TIAS:x" ∷ "bxTIAS:1" ∷ "a=TIAS:1" ∷ "" ∷ [])
    ≡ true ∷ true ∷ true ∷ false ∷ false ∷ false ∷ false ∷ false ∷ []
unfolding computing
tias_lines = refl

-- they are left out where an AS line stands in the section, before or after, and nowhere else; nothing else is left out
pub left_out : map (λ (t : String). without_tias false (cut t))
    ("v=0\nm=a 0 udp 0\nb=AS:1\nb=TIAS:2\n"
    ∷ "v=0\nm=a 0 udp 0\nb=TIAS:2\r\nc=x\nb=AS:1\nb=RS:3\n"
    ∷ "v=0\nm=a 0 udp 0\nb=TIAS:2\n"
    ∷ "v=0\nb=AS:1\nb=TIAS:2\nm=a 0 udp 0\nb=TIAS:3\n"
    ∷ "v=0\nm=a 0 udp 0\nb=AS:1\nm=b 0 udp 0\nb=TIAS:2\nm=c 0 udp 0\nb=TIAS:3\nb=AS:4\nb=TIAS:5\n"
    ∷ "v=0\nm=a 0 udp 0\nb=AS:1\nb=TIAS:x\nbxTIAS:2\n"
    ∷ "v=0\nm=a 0 udp 0\nb=AS:1\nb=TIAS:2"
    ∷ "v=0"
    ∷ [])
    ≡ map cut
    ("v=0\nm=a 0 udp 0\nb=AS:1\n"
    ∷ "v=0\nm=a 0 udp 0\nc=x\nb=AS:1\nb=RS:3\n"
    ∷ "v=0\nm=a 0 udp 0\nb=TIAS:2\n"
    ∷ "v=0\nb=AS:1\nb=TIAS:2\nm=a 0 udp 0\nb=TIAS:3\n"
    ∷ "v=0\nm=a 0 udp 0\nb=AS:1\nm=b 0 udp 0\nb=TIAS:2\nm=c 0 udp 0\nb=AS:4\n"
    ∷ "v=0\nm=a 0 udp 0\nb=AS:1\nb=TIAS:x\nbxTIAS:2\n"
    ∷ "v=0\nm=a 0 udp 0\nb=AS:1\nb=TIAS:2"
    ∷ "v=0"
    ∷ [])
unfolding computing
left_out = refl

-- .. by `decided`, before the next `m=` line
pub left_out_here : (without_tias true (cut "b=TIAS:1\na=x\nm=a 0 udp 0\nb=TIAS:2\n") ≡ cut "a=x\nm=a 0 udp 0\nb=TIAS:2\n")
    × (without_tias true (cut "b=TIAS:1") ≡ cut "b=TIAS:1")
unfolding computing
left_out_here = (refl, refl)
