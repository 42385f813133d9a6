-- Refusals 1 and 2: lines, their endings and their form, and line 1: computed. Assumes nothing.
use Prim.Native.Nat.{ℕ, zero, suc}
use mathlib.Core.Path.{◌≡◌, refl}
use mathlib.Core.List.{List, [], ◌∷◌, ◌++◌, map}
use mathlib.Core.Bool.{true, false}
use lib.ListN.{length, replicate}
use Rattle.cursor.specs.Bytes.{bytes}
use Rattle.sdp.specs.Line.{is_line, lines_among, lines_of}
use Rattle.sdp.specs.Text.{refusal, read_lines}
use Rattle.sdp.proofs.Computing.{computing}
use Rattle.sdp.proofs.Cases.{Told, told}

-- "Line 1 is exactly `v=0`." "2 .. line (1 if empty)": an empty text is 2 at line 1, `v=0` alone is good, and a later `v=` is passed over.
pub line_1 : Told bytes
    (("v=0\n", 0, 0)
    ∷ ("v=0\r\n", 0, 0)
    ∷ ("v=0\r\ns=-\n", 0, 0)
    ∷ ("v=0\r\ns=-\na=x\r\n", 0, 0)
    ∷ ("v=0\nv=1\nv=\n", 0, 0)
    ∷ ("v=0\nv=0\nv=0\n", 0, 0)
    ∷ ("", 2, 1)
    ∷ ("\n", 2, 1)
    ∷ ("\r\n", 2, 1)
    ∷ ("v=0", 2, 1)
    ∷ ("v=0\r", 2, 1)
    ∷ ("v=0\r\r\n", 2, 1)
    ∷ ("v=0\n\r", 2, 2)
    ∷ ("v=\n", 2, 1)
    ∷ ("v=1\n", 2, 1)
    ∷ ("v=00\n", 2, 1)
    ∷ ("v=0 \n", 2, 1)
    ∷ (" v=0\n", 2, 1)
    ∷ ("V=0\n", 2, 1)
    ∷ ("a=x\nv=0\n", 2, 1)
    ∷ [])
unfolding computing
line_1 = refl

-- What is cut into no part, or into one without an ending, has no line 1.
pub no_line_1 : (read_lines [] ≡ refusal 2 1) × (read_lines (bytes "v=0" ∷ []) ≡ refusal 2 1)
unfolding computing
no_line_1 = (refl, refl)

-- "Lines end in LF or CR LF; the last one too." Endings may be mixed. "A CR not right before an LF, CR CR LF, and an empty line are 2 at the
-- line where they stand." "A missing last LF is 2 at that last partial line; there is no empty line after the final LF."
pub endings : Told (λ more. bytes "v=0\n" ++ bytes more)
    (("a=x\r\ns=y\r\n", 0, 0)
    ∷ ("a=x\r\ns=y\n", 0, 0)
    ∷ ("a=x\ns=y\r\n", 0, 0)
    ∷ ("a=\r\n", 0, 0)
    ∷ ("a=x\ns=y", 2, 3)
    ∷ ("a=x\ns=y\r", 2, 3)
    ∷ ("a=x\n\ns=y\n", 2, 3)
    ∷ ("a=x\n\r\ns=y\n", 2, 3)
    ∷ ("a=x\n\n", 2, 3)
    ∷ ("\n", 2, 2)
    ∷ ("a=x\r\r\n", 2, 2)
    ∷ ("a=x\rs=y\n", 2, 2)
    ∷ ("a=x\n\rs=y\n", 2, 3)
    ∷ [])
unfolding computing
endings = refl

-- how many lines a text has: "1 if empty"
pub lines_counted : (map lines_of ([] ∷ bytes "\n" ∷ bytes "v=0" ∷ bytes "v=0\n" ∷ bytes "v=0\r\na=x" ∷ bytes "v=0\n\na=x\n" ∷ []) ≡ (1 ∷ 1 ∷ 1 ∷ 1 ∷ 2 ∷ 3 ∷ []))
    × (map lines_among ([] ∷ ([] ∷ []) ∷ []) ≡ (0 ∷ 0 ∷ []))
unfolding computing
lines_counted = (refl, refl)

-- "A line is a letter a-z, `=`, then zero or more bytes": what is shorter, or has another byte before or in place of the `=`
pub forms : Told (λ line. bytes "v=0\n" ++ bytes line ++ bytes "\ns=-\n")
    (("a=", 0, 0)
    ∷ ("a==", 0, 0)
    ∷ ("k=clear:x y", 0, 0)
    ∷ ("", 2, 2)
    ∷ ("a", 2, 2)
    ∷ ("=", 2, 2)
    ∷ ("=a", 2, 2)
    ∷ ("ax", 2, 2)
    ∷ ("a:x", 2, 2)
    ∷ ("aa=x", 2, 2)
    ∷ ("a =x", 2, 2)
    ∷ (" a=x", 2, 2)
    ∷ [])
unfolding computing
forms = refl

-- n, and the bytes after it, k in all
abbrev from : ℕ → ℕ → List ℕ
from n zero = []
from n (suc k) = n ∷ from (suc n) k

abbrev of_each : (ℕ → List ℕ) → List (ℕ × ℕ)
of_each line = map (λ (b : ℕ). told (bytes "v=0\n" ++ line b ++ bytes "\n")) (from 0 256)

abbrev good : ℕ × ℕ
good = (0, 0)

abbrev bad : ℕ × ℕ
bad = (2, 2)

-- ".. a letter a-z": of all 256 bytes, those from 97 to 122. "Lines not named below are passed over": in the session section `a=`, `c=` and
-- `m=` alone are read, of which the last two have faults of their own here. "`=`": 61 alone.
pub letters : of_each (λ b. b ∷ bytes "=x")
    ≡ replicate 97 bad ++ good ∷ good ∷ (6, 2) ∷ replicate 9 good ++ (3, 2) ∷ replicate 13 good ++ replicate 133 bad
unfolding computing
letters = refl

-- .. in a media section `a=`, `b=`, `c=` and `m=` alone, of which the last three have faults of their own here
pub letters_in_media : map (λ (b : ℕ). told (bytes "v=0\nm=a 0 udp 0\n" ++ b ∷ bytes "=AS:x\n")) (from 0 256)
    ≡ replicate 97 (2, 3) ++ good ∷ (7, 3) ∷ (6, 3) ∷ replicate 9 good ++ (3, 3) ∷ replicate 13 good ++ replicate 133 (2, 3)
unfolding computing
letters_in_media = refl

pub equal_signs : of_each (λ b. bytes "a" ++ b ∷ bytes "x") ≡ replicate 61 bad ++ good ∷ replicate 194 bad
unfolding computing
equal_signs = refl

-- ".. bytes other than NUL, CR, LF": tab, controls and bytes over 127 are allowed; an LF ends the line, and the next is bad.
pub bytes_of_a_line : of_each (λ b. bytes "a=" ++ b ∷ bytes "x")
    ≡ bad ∷ replicate 9 good ++ (2, 3) ∷ good ∷ good ∷ bad ∷ replicate 242 good
unfolding computing
bytes_of_a_line = refl

-- .. of a line by itself, also at its end
pub bytes_at_its_end : map (λ (b : ℕ). is_line (bytes "a=x" ++ b ∷ [])) (from 0 256)
    ≡ false ∷ replicate 9 true ++ false ∷ true ∷ true ∷ false ∷ replicate 242 true
unfolding computing
bytes_at_its_end = refl

-- "Line at most 256 bytes without its ending": the letter and the `=` count, the CR does not.
abbrev of_length : ℕ → List ℕ → ℕ × ℕ
of_length n ending = told (bytes "v=0\na=" ++ replicate n 97 ++ ending)

pub longest_line : (of_length 254 (bytes "\n") ≡ good)
    × (of_length 255 (bytes "\n") ≡ bad)
    × (of_length 254 (bytes "\r\n") ≡ good)
    × (of_length 255 (bytes "\r\n") ≡ bad)
unfolding computing
longest_line = (refl, refl, refl, refl)

-- "each tested for 2 and then its own kind": of every letter, in a media section, a line that is too long, and one with a NUL or a CR in it, is 2,
-- also where it would be passed over or has a fault of its own. A C string's NUL is no ending.
abbrev letter_lines : List ℕ → List (ℕ × ℕ)
letter_lines value = map (λ (b : ℕ). told (bytes "v=0\nm=a 0 udp 0\n" ++ b ∷ bytes "=" ++ value ++ bytes "\n")) (from 97 26)

pub two_first : (letter_lines (replicate 255 97) ≡ replicate 26 (2, 3))
    × (letter_lines (bytes "x" ++ (0 ∷ [])) ≡ replicate 26 (2, 3))
    × (letter_lines (bytes "x\ry") ≡ replicate 26 (2, 3))
    × (told (bytes "v=0\n" ++ (0 ∷ [])) ≡ bad)
    × (told (bytes "v=0\nm=" ++ replicate 255 97 ++ bytes "\n") ≡ bad)
unfolding computing
two_first = (refl, refl, refl, refl, refl)

-- .. and of every letter a tab, a control and bytes over 127 are allowed; in a media name too. `c=` and `m=` have faults of their own here.
pub bytes_allowed :
    (letter_lines (bytes "x" ++ (9 ∷ 1 ∷ 127 ∷ 128 ∷ 255 ∷ [])) ≡ good ∷ good ∷ (6, 3) ∷ replicate 9 good ++ (3, 3) ∷ replicate 13 good)
    × (told (bytes "v=0\nm=" ++ (195 ∷ 188 ∷ []) ++ bytes " 0 udp " ++ (195 ∷ 188 ∷ []) ++ bytes "\n") ≡ good)
unfolding computing
bytes_allowed = (refl, refl)

-- "Text at most 4,096 bytes": every byte counts, the endings too. Fifteen lines of 256 bytes, and one more; "1" comes before anything else.
abbrev lines : ℕ → List ℕ
lines zero = []
lines (suc n) = bytes "a=" ++ replicate 254 97 ++ bytes "\n" ++ lines n

abbrev long : ℕ → List ℕ
long n = bytes "v=0\n" ++ lines 15 ++ bytes "a=" ++ replicate n 97 ++ bytes "\r\n"

pub longest : (length (long 233) ≡ 4096)
    × (told (long 233) ≡ good)
    × (told (long 234) ≡ (1, 0))
    × (told (replicate 4096 97) ≡ (2, 1))
    × (told (replicate 4097 97) ≡ (1, 0))
unfolding computing
longest = (refl, refl, refl, refl, refl)

-- Lines are bounded by the bytes alone, and so is a place: 1,365 lines in 4,096 bytes.
abbrev short : ℕ → List ℕ
short zero = []
short (suc n) = bytes "a=\n" ++ short n

pub many_lines : (told (bytes "v=0\n" ++ short 1364) ≡ good)
    × (told (bytes "v=0\n" ++ short 300 ++ bytes "x\n") ≡ (2, 302))
    × (told (bytes "v=0\n" ++ short 1363 ++ bytes "a=x") ≡ (2, 1365))
unfolding computing
many_lines = (refl, refl, refl)
