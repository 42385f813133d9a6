-- Document 01's evening, from the bytes of its call file to the bytes of its output: computed. Assumes nothing.
use Prim.Native.Nat.{ℕ}
use mathlib.Core.Path.{◌≡◌, refl}
use mathlib.Core.List.{List, ◌++◌}
use Rattle.cursor.specs.Bytes.{bytes}
use Rattle.evening.specs.Playing.{output}
use Rattle.evening.proofs.Computing.{computing}

-- the call file, and what it prints
abbrev file : List ℕ
file =
    bytes "6\n100000\n100000\n5000\n5000\n1000000\n1000000\n"
    ++ (bytes "2\n55\nv=0\nc=IN IP4 192.0.2.1\nm=audio 40000 RTP/AVP 0\nb=AS:64\n"
    ++ (bytes "47\nv=0\nc=IN IP4 192.0.2.9\nm=audio 50000 RTP/AVP 0\n"
    ++ bytes "6\nO 0 0 0\nA 0 1\nB 0 1 2 105000 67200\nB 0 1 2 105001 67200\nX 0\nX 0\n"))

abbrev printed : List ℕ
printed =
    bytes "calls 6\n1 O 0 0\n2 A 0 0 105000 67200\n3 B 0 0 2 105000 67200\n4 B 17 0 2 105000 67200\n5 X 0 0 -105000 -67200\n6 X 13 0 0 0\nbooked 0 0\n"

-- What is printed for it.
pub paper_evening : output file ≡ printed
unfolding computing
paper_evening = refl

-- A file with one byte after its last call.
pub bad_evening : output (file ++ bytes "\n") ≡ bytes "bad file\n"
unfolding computing
bad_evening = refl
