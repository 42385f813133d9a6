-- The `m=` lines of a text, counted, and where a direction line stands, a section's own and the session's: computed. Assumes nothing.
use Prim.Native.Nat.{ℕ}
use Prim.Native.String.{String}
use mathlib.Core.Path.{◌≡◌, refl}
use mathlib.Core.List.{List, [], ◌∷◌, ◌++◌, map}
use lib.ListN.{get_or, take, replicate}
use Rattle.cursor.specs.Bytes.{split, bytes}
use Rattle.sdp.specs.Line.{lf}
use Rattle.sdp.specs.Section.{no_spot}
use Rattle.sdp.specs.Text.{read_text}
use Rattle.sdp.specs.Spots.{media_among, session_section, media_section}
use Rattle.sdp.proofs.Computing.{computing}

-- how many `m=` lines, of what stands before a line: nothing yet, the first, one with lines of its own, two
abbrev before : List (List ℕ)
before = [] ∷ bytes "v=0" ∷ bytes "v=0\nm=audio 9 udp 0\r\na=m" ∷ bytes "v=0\nm=audio 9 udp 0\na=inactive\nm=video 0 udp 0" ∷ []

pub counted : map (λ (t : List ℕ). media_among (split lf t)) before ≡ 0 ∷ 0 ∷ 1 ∷ 2 ∷ []
unfolding computing media_among
counted = refl

-- .. which says in what section that line stands
pub in_section : map (λ (t : List ℕ). media_among (split lf t)) before ≡ session_section ∷ session_section ∷ media_section 0 ∷ media_section 1 ∷ []
unfolding computing media_among
in_section = refl

-- each of the four, `a=sendrecv` like the others
pub directions_spotted : map (λ (d : String). get_or (read_text (bytes "v=0\nm=a 0 udp 0\na=" ++ bytes d ++ bytes "\n")).spots 0 no_spot)
    ("sendrecv" ∷ "sendonly" ∷ "recvonly" ∷ "inactive" ∷ [])
    ≡ replicate 4 (record { start = 4; end = 15; from = 16; to = 26 })
unfolding computing
directions_spotted = refl

-- .. each line with its own ending
pub mixed_spotted : get_or (read_text (bytes "v=0\ns=-\nm=audio 0 udp 0\r\na=x\na=sendonly\r\na=y\n")).spots 0 no_spot ≡ record { start = 8; end = 23; from = 29; to = 39 }
unfolding computing
mixed_spotted = refl

-- "The deciding line may be that session line" (02, 1): of a section without its own the spot is the session's line, `a=sendrecv` too; of a
-- section with its own it is that one.
pub session_spotted : map (λ (d : String). get_or (read_text (bytes "v=0\na=" ++ bytes d ++ bytes "\nm=a 0 udp 0\n")).spots 0 no_spot)
    ("sendrecv" ∷ "sendonly" ∷ "recvonly" ∷ "inactive" ∷ [])
    ≡ replicate 4 (record { start = 15; end = 26; from = 4; to = 14 })
unfolding computing
session_spotted = refl

pub each_spotted : take 3 (read_text (bytes "v=0\r\ns=-\na=sendonly\r\nm=a 0 udp 0\nm=b 0 udp 0\r\na=sendrecv\nm=c 0 udp 0\n")).spots
    ≡ record { start = 21; end = 32; from = 9; to = 19 }
    ∷ record { start = 33; end = 44; from = 46; to = 56 }
    ∷ record { start = 57; end = 68; from = 9; to = 19 }
    ∷ []
unfolding computing
each_spotted = refl

-- .. by each of the session's, a row, and none and each own one, a column: where the line starts
abbrev four : List String
four = "a=sendrecv\n" ∷ "a=sendonly\n" ∷ "a=recvonly\n" ∷ "a=inactive\n" ∷ []

pub every_spot : map (λ (x : String). map (λ (y : String). (get_or (read_text (bytes "v=0\n" ++ bytes x ++ bytes "m=a 0 udp 0\n" ++ bytes y)).spots 0 no_spot).from) ("" ∷ four)) four
    ≡ replicate 4 (4 ∷ replicate 4 27)
unfolding computing
every_spot = refl

-- whatever lines come between, in the session section and in the media section
pub kept_spotted : map (λ (more : String × String). (get_or (read_text (bytes "v=0\na=sendonly\n" ++ bytes more.0 ++ bytes "m=a 9 udp 0\n" ++ bytes more.1)).spots 0 no_spot).from)
    (("c=IN IP4 1.2.3.4\n", "")
    ∷ ("c=IN IP4 1.2.3.4\na=x\na=sendonly \nb=AS:1\nt=0 0\nk=x\n", "")
    ∷ ("", "c=IN IP4 1.2.3.4\n")
    ∷ ("", "c=IN IP4 1.2.3.4\na=x\na=sendonly \nb=AS:1\nb=RS:1\nb=RR:1\ni=x\nk=x\n")
    ∷ [])
    ≡ replicate 4 4
unfolding computing
kept_spotted = refl

-- past byte 255
pub far_spotted : get_or (read_text (bytes "v=0\ni=" ++ replicate 254 120 ++ bytes "\na=inactive\nm=a 0 udp 0\n")).spots 0 no_spot ≡ record { start = 272; end = 283; from = 261; to = 271 }
unfolding computing
far_spotted = refl
