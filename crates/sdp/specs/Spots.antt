-- Where the lines of a section stand in its text, for "the part of the offer or the answer that decided its status, without its ending".
use Rattle.std.specs.Prelude.{Some, None, Ok}
use Rattle.std.specs.Prelude.{ℕ, ◌+◌, ◌≡◌, ◌⊎◌, ◌≢◌, List, [], ◌∷◌, ◌++◌, true, cond, length, eqb}
use Prim.Native.Char.{code}
use Rattle.cursor.specs.Bytes.{split}
use Rattle.sdp.specs.Line.{lf, cr, is_line, letter, value}
use Rattle.sdp.specs.Media.{media_of}
use Rattle.sdp.specs.Direction.{sendrecv, direction_of, direction_number}
use Rattle.sdp.specs.declared.Media.{Media}
use Rattle.sdp.specs.declared.Spot.{Spot}
use Rattle.sdp.specs.declared.direction.Direction.{Direction}

-- l is one whole line of the text t, without its ending, from `start` to before `end`. It is not the first: the LF of the line before stands
-- before it. "Lines end in LF or CR LF"
pub record WholeLine (t : List ℕ) (start end : ℕ) (l : List ℕ) : Type 0 where
  pub before : List ℕ
  pub ending : List ℕ
  pub after : List ℕ
  pub text : t ≡ before ++ (lf ∷ (l ++ (ending ++ after)))
  pub ended : (ending ≡ lf ∷ []) ⊎ (ending ≡ cr ∷ lf ∷ [])
  pub line : is_line l ≡ true
  pub starts : start ≡ length before + 1
  pub ends : end ≡ start + length l

-- how many of these lines are `m=` lines
unfoldable pub media_among : List (List ℕ) → ℕ
media_among [] = 0
media_among (l ∷ ls) = cond (eqb (letter l) (code "m")) 1 0 + media_among ls

-- l is the `m=` line of media section j, counted from 0: so many `m=` lines stand before it. It says the section's kind, transport and port
pub record MediaLineOf (t : List ℕ) (j : ℕ) (m : Media) (start end : ℕ) (l : List ℕ) : Type 0 where
  pub whole : WholeLine t start end l
  pub is_m : letter l ≡ code "m"
  pub section : media_among (split lf whole.before) ≡ j
  pub says : media_of (value l) ≡ Ok (record { kind = m.kind; transport = m.transport; port = m.port })

-- a section, as how many `m=` lines stand before its lines: none of the session section's, j + 1 of media section j's
abbrev pub session_section : ℕ
session_section = 0

abbrev pub media_section : ℕ → ℕ
media_section j = j + 1

-- l is the direction line of a section, and says the direction d; no other line there is one. "At most one in a media section"; "8 is given
-- for a second direction in the session section too" (02, 1)
pub record DirectionLineIn (t : List ℕ) (section d from to : ℕ) (l : List ℕ) : Type 0 where
  pub whole : WholeLine t from to l
  pub is_a : letter l ≡ code "a"
  pub within : media_among (split lf whole.before) ≡ section
  pub direction : Direction
  pub says : direction_of (value l) ≡ Some direction
  pub number : direction_number direction ≡ d
  pub only : (start end : ℕ) (other : List ℕ) (w : WholeLine t start end other) → letter other ≡ code "a"
      → media_among (split lf w.before) ≡ section → start ≢ from → direction_of (value other) ≡ None

-- a section has no direction line: no `a=` line that stands in it is one
pub record NoDirectionLineIn (t : List ℕ) (section : ℕ) : Type 0 where
  pub none : (start end : ℕ) (l : List ℕ) (w : WholeLine t start end l) → letter l ≡ code "a"
      → media_among (split lf w.before) ≡ section → direction_of (value l) ≡ None

-- l is the direction line of media section j: its own; or the session section's, which "stands for a media section without one" (02, 1)
pub data DirectionLineOf (t : List ℕ) (j : ℕ) (m : Media) (from to : ℕ) (l : List ℕ) : Type 0 where
  own_line : DirectionLineIn t (media_section j) m.direction from to l → DirectionLineOf t j m from to l
  session_line : NoDirectionLineIn t (media_section j) → DirectionLineIn t session_section m.direction from to l → DirectionLineOf t j m from to l

-- media section j has no direction line, neither its own nor the session section's. "None means sendrecv."
pub record NoDirectionLineOf (t : List ℕ) (j : ℕ) (m : Media) : Type 0 where
  pub own : NoDirectionLineIn t (media_section j)
  pub session : NoDirectionLineIn t session_section
  pub means : m.direction ≡ sendrecv

-- its direction line stands from `from` to before `to`; or it has none, and these are 0 and 0
pub data Directed (t : List ℕ) (j : ℕ) (m : Media) (from to : ℕ) : Type 0 where
  by_line : (l : List ℕ) → DirectionLineOf t j m from to l → Directed t j m from to
  by_none : NoDirectionLineOf t j m → from ≡ 0 → to ≡ 0 → Directed t j m from to

-- the spot of media section j
pub record Lined (t : List ℕ) (j : ℕ) (m : Media) (s : Spot) : Type 0 where
  pub media : (l : List ℕ) × MediaLineOf t j m s.start s.end l
  pub direction : Directed t j m s.from s.to
