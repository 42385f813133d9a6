-- "SDP makes a session-level attribute the default" (02, 1), said of whole texts: one with a direction line in its session section says the
-- same as one with that line in each media section that has none (theorem `session_stands`, of a text that is not refused with 8), and, where
-- each has its own, as the text without it (`own_wins`). Here what these words mean, for the parts of a text cut at each LF.
use Rattle.std.specs.Prelude.{Option, Some, None}
use Rattle.sdp.specs.declared.direction.Direction.{Direction}
use Rattle.std.specs.Prelude.{ℕ, ◌≡◌, List, [], ◌∷◌, Bool, true, false, cond, not, ◌&&◌, ◌||◌, eqb}
use Prim.Native.Char.{code}
use Rattle.sdp.specs.Line.{bare, is_line, letter, value}
use Rattle.sdp.specs.Direction.{direction_of}
use Rattle.sdp.specs.declared.Text.{Text}

abbrev pub is_media_line : List ℕ → Bool
is_media_line p = eqb (letter (bare p)) (code "m")

abbrev pub is_direction : Option Direction → Bool
is_direction (Some d) = true
is_direction None = false

abbrev pub is_direction_line : List ℕ → Bool
is_direction_line p = is_line (bare p) && (eqb (letter (bare p)) (code "a") && is_direction (direction_of (value (bare p))))

-- one of the lines up to the next `m=` line is a direction line. (What stands after the last LF, and what has not the form, is no line.)
unfoldable pub directed : List (List ℕ) → Bool
directed [] = false
directed (p ∷ []) = false
directed (p ∷ q ∷ ps) = cond (is_media_line p) false (is_direction_line p || directed (q ∷ ps))

-- p is the `m=` line of a media section that has no direction line
abbrev pub undirected : List ℕ → List (List ℕ) → Bool
undirected p [] = false
undirected p (q ∷ ps) = is_media_line p && not (directed (q ∷ ps))

-- the line d in each media section that has none, after its `m=` line
unfoldable pub spread : List ℕ → List (List ℕ) → List (List ℕ)
spread d [] = []
spread d (p ∷ ps) = p ∷ cond (undirected p ps) (d ∷ spread d ps) (spread d ps)

-- the lines after line 1: the direction line of the session section, if any, goes into each media section that has none. (Of two, for which 8 is
-- given, the first one goes.)
unfoldable pub moved_from : List (List ℕ) → List (List ℕ)
moved_from [] = []
moved_from (p ∷ []) = p ∷ []
moved_from (p ∷ q ∷ ps) =
    cond (is_media_line p) (p ∷ q ∷ ps) (cond (is_direction_line p) (spread p (q ∷ ps)) (p ∷ moved_from (q ∷ ps)))

unfoldable pub moved : List (List ℕ) → List (List ℕ)
moved [] = []
moved (p ∷ ps) = p ∷ moved_from ps

-- each media section has a direction line
unfoldable pub all_directed : List (List ℕ) → Bool
all_directed [] = true
all_directed (p ∷ ps) = not (undirected p ps) && all_directed ps

-- without the direction line of the session section
unfoldable pub unsaid_from : List (List ℕ) → List (List ℕ)
unsaid_from [] = []
unsaid_from (p ∷ []) = p ∷ []
unsaid_from (p ∷ q ∷ ps) = cond (is_media_line p) (p ∷ q ∷ ps) (cond (is_direction_line p) (q ∷ ps) (p ∷ unsaid_from (q ∷ ps)))

unfoldable pub unsaid : List (List ℕ) → List (List ℕ)
unsaid [] = []
unsaid (p ∷ ps) = p ∷ unsaid_from ps

-- two texts say the same: refused with one number, or good with the same descriptions. (Places and spots go by where the lines stand.)
pub record SaySame (x y : Text) : Type 0 where
  pub refusal : x.refusal ≡ y.refusal
  pub count : x.count ≡ y.count
  pub media : x.media ≡ y.media
