-- "AS decides where present, else TIAS as it stands" (02, 7), said of whole texts, for their parts cut at each LF: what each media section requests
-- is what its lines say (theorem `requested_said`), and where a section has an AS line, its TIAS line changes nothing (`as_decides`).
use Rattle.std.specs.Prelude.{Option, Some, None}
use Rattle.std.specs.Prelude.{ℕ, List, [], ◌∷◌, Bool, cond, not, ◌&&◌, eqb}
use Prim.Native.Char.{code}
use Rattle.sdp.specs.Line.{bare, is_line, letter, value}
use Rattle.sdp.specs.Bandwidth.{bandwidth_of}
use Rattle.sdp.specs.Section.{absent, no_rate, some_rate, as_else_tias}
use Rattle.sdp.specs.Default.{is_media_line}
use Rattle.sdp.specs.declared.Requested.{Requested}
use Rattle.sdp.specs.declared.bandwidth.Rate.{Rate}
use Rattle.sdp.specs.declared.bandwidth.Rate.TheVariants.{As, Tias, Rs, Rr, Other}

-- what a `b=` line says of AS, and of TIAS
abbrev pub as_of : Rate → Requested
as_of (As b) = some_rate b
as_of (Tias b) = no_rate
as_of (Rs b) = no_rate
as_of (Rr b) = no_rate
as_of Other = no_rate

abbrev pub tias_of : Rate → Requested
tias_of (As b) = no_rate
tias_of (Tias b) = some_rate b
tias_of (Rs b) = no_rate
tias_of (Rr b) = no_rate
tias_of Other = no_rate

abbrev pub rate_of : (Rate → Requested) → Option Rate → Requested
rate_of f (Some r) = f r
rate_of f None = no_rate

-- what a line says of it
abbrev pub rate_line : (Rate → Requested) → List ℕ → Requested
rate_line f l = cond (eqb (letter l) (code "b")) (rate_of f (bandwidth_of (value l))) no_rate

-- what these lines say of it. (A good text has at most one such line in a section; of two the last is meant.)
unfoldable pub rate_among : (Rate → Requested) → List (List ℕ) → Requested
rate_among f [] = no_rate
rate_among f (l ∷ ls) = cond (absent (rate_among f ls).given) (rate_line f l) (rate_among f ls)

-- the rate that a media section of these lines requests: "AS decides where present, else TIAS as it stands"
abbrev pub requested_by : List (List ℕ) → Requested
requested_by ls = as_else_tias (rate_among as_of ls) (rate_among tias_of ls)

-- the lines up to the next `m=` line. (What stands after the last LF is no line.)
unfoldable pub section_lines : List (List ℕ) → List (List ℕ)
section_lines [] = []
section_lines (p ∷ []) = []
section_lines (p ∷ q ∷ ps) = cond (is_media_line p) [] (bare p ∷ section_lines (q ∷ ps))

-- the lines of each media section, after its `m=` line
unfoldable pub media_sections : List (List ℕ) → List (List (List ℕ))
media_sections [] = []
media_sections (p ∷ []) = []
media_sections (p ∷ q ∷ ps) = cond (is_media_line p) (section_lines (q ∷ ps) ∷ media_sections (q ∷ ps)) (media_sections (q ∷ ps))

-- one of the lines up to the next `m=` line is an AS line
abbrev pub has_as : List (List ℕ) → Bool
has_as ps = not (absent (rate_among as_of (section_lines ps)).given)

abbrev pub is_tias_line : List ℕ → Bool
is_tias_line p = is_line (bare p) && not (absent (rate_line tias_of (bare p)).given)

-- without the TIAS lines of each media section that has an AS line; `decided` says that the section at hand is such a one
unfoldable pub without_tias : Bool → List (List ℕ) → List (List ℕ)
without_tias decided [] = []
without_tias decided (p ∷ []) = p ∷ []
without_tias decided (p ∷ q ∷ ps) =
    cond (is_media_line p) (p ∷ without_tias (has_as (q ∷ ps)) (q ∷ ps))
    (cond (decided && is_tias_line p) (without_tias decided (q ∷ ps)) (p ∷ without_tias decided (q ∷ ps)))
