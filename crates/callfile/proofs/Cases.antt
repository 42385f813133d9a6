-- Which files are well formed: computed. Assumes nothing.
use Prim.Native.Nat.{ℕ, zero, suc}
use mathlib.Core.Path.{◌≡◌, refl}
use mathlib.Core.List.{List, [], ◌∷◌, ◌++◌, map}
use mathlib.Core.Bool.{Bool, true, false}
use lib.ListN.{replicate}
use Rattle.cursor.specs.Bytes.{bytes}
use Rattle.cursor.specs.Cursor.{on_some}
use Rattle.callfile.specs.Sections.{read_file}
use Rattle.callfile.proofs.Computing.{computing}

-- six settings, all different; then the rest of a file
abbrev six : List ℕ → List ℕ
six rest = bytes "6\n1\n2\n3\n4\n5\n6\n" ++ rest

-- whether a file is well formed
abbrev good : List ℕ → Bool
good file = on_some (read_file file) false λ read. true

-- a file, and whether it is well formed
abbrev Case : Type 0
Case = List ℕ × Bool

abbrev well : Case → Bool
well k = k.1

abbrev read : Case → Bool
read k = good k.0

-- a file with two texts, the second of one byte, and one call
abbrev calling : List ℕ → List ℕ
calling call = six (bytes "2\n0\n1\nx1\n" ++ call)

abbrev cases : List Case
cases =
    -- zero texts and zero calls; nothing after the last call; a last LF
    (six (bytes "0\n0\n"), true)
    ∷ (six (bytes "0\n0\n\n"), false)
    ∷ (six (bytes "0\n0"), false)
    -- the count of the settings, and their number; each on its line
    ∷ (bytes "5\n1\n2\n3\n4\n5\n0\n0\n", false)
    ∷ (bytes "6\n1\n2\n3\n4\n5\n0\n0\n", false)
    ∷ (bytes "7\n1\n2\n3\n4\n5\n6\n7\n0\n0\n", false)
    ∷ (bytes "6\n1\n2\n3\n4\n5 6\n0\n0\n", false)
    ∷ (bytes "6\n1\n2\n3\n4\n5\n6", false)
    -- "1 to 10 digits", "at most 4,294,967,295"; leading zeros
    ∷ (bytes "6\n4294967295\n2\n3\n4\n5\n0000000006\n0\n0\n", true)
    ∷ (bytes "6\n4294967296\n2\n3\n4\n5\n6\n0\n0\n", false)
    ∷ (bytes "0000000006\n01\n2\n3\n4\n5\n6\n0000000001\n02\nxy0000000001\nO 00 0000000001 000\n", true)
    ∷ (bytes "00000000006\n1\n2\n3\n4\n5\n6\n0\n0\n", false)
    -- .. each of them
    ∷ (bytes "6\n1\n4294967296\n3\n4\n5\n6\n0\n0\n", false)
    ∷ (bytes "6\n1\n2\n3\n4\n5\n4294967296\n0\n0\n", false)
    ∷ (bytes "6\n0\n4294967295\n0\n4294967295\n0\n4294967295\n0\n0\n", true)
    ∷ (six (bytes "4294967296\n0\n"), false)
    ∷ (six (bytes "0\n4294967296\n"), false)
    ∷ (calling (bytes "B 4294967295 4294967295 4294967295 4294967295 4294967295\n"), true)
    ∷ (calling (bytes "B 0 4294967296 2 0 0\n"), false)
    ∷ (calling (bytes "B 0 1 4294967296 0 0\n"), false)
    ∷ (calling (bytes "B 0 1 2 4294967296 0\n"), false)
    ∷ (calling (bytes "B 0 1 2 0 4294967296\n"), false)
    ∷ (six (bytes "00000000000\n0\n"), false)
    ∷ (six (bytes "0\n00000000000\n"), false)
    ∷ (six (bytes "1\n00000000002\nxy0\n"), false)
    ∷ (calling (bytes "C 00000000000\n"), false)
    ∷ (bytes "6\n1\n2\n3\n4\n5\n00000000006\n0\n0\n", false)
    ∷ (bytes "6\n1\n2\n3\n4\n5\n\n0\n0\n", false)
    -- a file that starts with none, or has nothing after its settings
    ∷ ([], false)
    ∷ (bytes "\n6\n1\n2\n3\n4\n5\n6\n0\n0\n", false)
    ∷ (six [], false)
    ∷ (six (bytes "0\n"), false)
    -- each letter with its figures, and no other
    ∷ (calling (bytes "O 0 0 0\n"), true)
    ∷ (calling (bytes "O 0 0\n"), false)
    ∷ (calling (bytes "O 0 0 0 0\n"), false)
    ∷ (calling (bytes "A 0 0\n"), true)
    ∷ (calling (bytes "A 0\n"), false)
    ∷ (calling (bytes "A 0 0 0\n"), false)
    ∷ (calling (bytes "C 0\n"), true)
    ∷ (calling (bytes "C\n"), false)
    ∷ (calling (bytes "C 0 0\n"), false)
    ∷ (calling (bytes "X 99\n"), true)
    ∷ (calling (bytes "X\n"), false)
    ∷ (calling (bytes "X 99 0\n"), false)
    ∷ (calling (bytes "B 0 1 3 4 5\n"), true)
    ∷ (calling (bytes "B 0 1 3 4\n"), false)
    ∷ (calling (bytes "B 0 1 3 4 5 6\n"), false)
    ∷ (calling (bytes "E 0\n"), false)
    ∷ (calling (bytes "c 0\n"), false)
    ∷ (calling (bytes "\n"), false)
    -- one space before each figure, and LF
    ∷ (calling (bytes "C0\n"), false)
    ∷ (calling (bytes "C  0\n"), false)
    ∷ (calling (bytes "C 0 \n"), false)
    ∷ (calling (bytes "C 0\r\n"), false)
    ∷ (calling (bytes "C 0"), false)
    ∷ (calling (bytes " C 0\n"), false)
    ∷ (calling (bytes "C 4294967295\n"), true)
    ∷ (calling (bytes "C 4294967296\n"), false)
    ∷ (calling (bytes "C -0\n"), false)
    ∷ (calling (bytes "C +0\n"), false)
    -- "lines end in LF": those of the counts, the settings and the lengths too
    ∷ (six (bytes "0\r\n0\n"), false)
    ∷ (six (bytes "0\n0\r\n"), false)
    ∷ (bytes "6\r\n1\n2\n3\n4\n5\n6\n0\n0\n", false)
    ∷ (bytes "6\n1 \n2\n3\n4\n5\n6\n0\n0\n", false)
    ∷ (bytes "6\n1\n2\n3\n4\n5\n6\r\n0\n0\n", false)
    ∷ (six (bytes "1\n2\r\nxy0\n"), false)
    -- no LF follows a text's bytes
    ∷ (six (bytes "1\n2\nxy0\n"), true)
    ∷ (six (bytes "1\n2\nxy\n0\n"), false)
    ∷ (six (bytes "2\n2\nxy\n0\n0\n"), false)
    -- as many calls as are counted
    ∷ (calling [], false)
    ∷ (calling (bytes "C 0\nC 0\n"), false)
    ∷ (six (bytes "0\n2\nC 0\nX 0\n"), true)
    ∷ (six (bytes "0\n2\nC 0\nE 0\n"), false)
    -- "A text number not in the file makes it malformed."
    ∷ (calling (bytes "O 0 9 1\n"), true)
    ∷ (calling (bytes "O 0 0 2\n"), false)
    ∷ (calling (bytes "A 9 1\n"), true)
    ∷ (calling (bytes "A 0 2\n"), false)
    ∷ (six (bytes "0\n1\nO 0 0 0\n"), false)
    ∷ (six (bytes "0\n1\nA 0 0\n"), false)
    -- .. "even in a call that would be refused"
    ∷ (calling (bytes "O 16 0 1\n"), true)
    ∷ (calling (bytes "O 16 0 2\n"), false)
    ∷ (calling (bytes "O 0 2 2\n"), false)
    ∷ (calling (bytes "A 16 2\n"), false)
    -- .. and in every call of several
    ∷ (six (bytes "2\n0\n1\nx3\nC 0\nA 0 1\nO 0 0 0\n"), true)
    ∷ (six (bytes "2\n0\n1\nx3\nC 0\nA 0 2\nO 0 0 0\n"), false)
    ∷ (six (bytes "2\n0\n1\nx3\nC 0\nA 0 1\nO 0 0 2\n"), false)
    ∷ (calling (bytes "A 0 256\n"), false)
    -- a text that ends after the file
    ∷ (six (bytes "1\n2\nx"), false)
    ∷ (six (bytes "1\n4294967294\nC 0\nC 0\nC 0\nC 0\n"), false)
    ∷ (six (bytes "1\n4294967295\nxy0\n"), false)
    ∷ (six (bytes "1\n"), false)
    ∷ []

pub well_formed : map read cases ≡ map well cases
unfolding computing
well_formed = refl

-- The calls are bounded by the bytes alone.
abbrev cancels : ℕ → List ℕ
cancels zero = []
cancels (suc n) = bytes "C 0\n" ++ cancels n

pub many_calls : (good (six (bytes "0\n70\n" ++ cancels 70)) ≡ true) × (good (six (bytes "0\n70\n" ++ cancels 69)) ≡ false)
    × (good (six (bytes "0\n70\n" ++ cancels 71)) ≡ false)
unfolding computing
many_calls = (refl, refl, refl)

-- "at most .. 64 texts"
abbrev empties : ℕ → List ℕ
empties zero = []
empties (suc n) = bytes "0\n" ++ empties n

pub texts_at_most : (good (six (bytes "64\n" ++ empties 64 ++ bytes "0\n")) ≡ true) × (good (six (bytes "65\n" ++ empties 65 ++ bytes "0\n")) ≡ false)
unfolding computing
texts_at_most = (refl, refl)

-- "the file has at most 49,152 bytes": with a text of 49,128 bytes it has as many, and with one more it is malformed.
pub bytes_at_most : (good (six (bytes "1\n49128\n" ++ replicate 49128 120 ++ bytes "0\n")) ≡ true)
    × (good (six (bytes "1\n49129\n" ++ replicate 49129 120 ++ bytes "0\n")) ≡ false)
unfolding computing
bytes_at_most = (refl, refl)
