-- The lines of a text. "Lines end in LF or CR LF; the last one too. A line is a letter a-z, `=`, then zero or more bytes other than
-- NUL, CR, LF." "Line at most 256 bytes without its ending."
use Rattle.std.specs.Prelude.{ℕ, ◌+◌, List, [], ◌∷◌, Bool, false, cond, not, ◌&&◌, length, get_or, drop, ltb, leb, eqb}
use Prim.Native.Char.{code}
use Rattle.cursor.specs.Bytes.{all, is_empty, split}

-- NUL, LF, CR and `=`
abbrev pub nul : ℕ
nul = 0

abbrev pub lf : ℕ
lf = 10

abbrev pub cr : ℕ
cr = 13

abbrev pub equals : ℕ
equals = code "="

-- a byte other than NUL, CR, LF
unfoldable pub is_text : ℕ → Bool
is_text b = cond (eqb b nul) false (cond (eqb b lf) false (not (eqb b cr)))

-- a letter a-z
unfoldable pub is_letter : ℕ → Bool
is_letter b = cond (ltb b (code "a")) false (leb b (code "z"))

-- what stands before an LF, without the CR of a CR LF
unfoldable pub bare : List ℕ → List ℕ
bare [] = []
bare (b ∷ []) = cond (eqb b cr) [] (b ∷ [])
bare (b ∷ c ∷ l) = b ∷ bare (c ∷ l)

abbrev pub most_line : ℕ
most_line = 256

-- a letter, `=`, then zero or more bytes other than NUL, CR, LF; at most 256 bytes
unfoldable pub is_line : List ℕ → Bool
is_line [] = false
is_line (a ∷ []) = false
is_line (a ∷ b ∷ l) = is_letter a && (eqb b equals && (all is_text l && leb (length (a ∷ b ∷ l)) most_line))

-- the letter of a line, and what stands after its `=`
abbrev pub letter : List ℕ → ℕ
letter l = get_or l 0 0

abbrev pub value : List ℕ → List ℕ
value l = drop 2 l

-- how many lines there are, cut at each LF: what stands after the last LF is one where there is anything
unfoldable pub lines_among : List (List ℕ) → ℕ
lines_among [] = 0
lines_among (p ∷ []) = cond (is_empty p) 0 1
lines_among (p ∷ q ∷ ps) = lines_among (q ∷ ps) + 1

-- the lines of a text; "1 if empty"
unfoldable pub lines_of : List ℕ → ℕ
lines_of [] = 1
lines_of (b ∷ l) = lines_among (split lf (b ∷ l))
