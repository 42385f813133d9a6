-- A text: its lines in order, up to the first faulty one, and then 9.
use Rattle.std.specs.Prelude.{Result, Ok, Err}
use Rattle.sdp.specs.declared.fault.Fault.{Fault}
use Rattle.std.specs.Prelude.{ℕ, ◌+◌, ◌-◌, List, [], ◌∷◌, ◌++◌, map, Bool, true, false, cond, length, replicate, ltb, leb, eqb}
use Prim.Native.Char.{code}
use Rattle.cursor.specs.Bytes.{is_word, is_empty, split, bytes}
use Rattle.sdp.specs.Line.{lf, bare, is_line, letter, value}
use Rattle.sdp.specs.Fault.{fault_number}
use Rattle.sdp.specs.Media.{media_of}
use Rattle.sdp.specs.Section.{no_media, no_spot, no_section, begun, line_in, session_of, closed, lacks}
use Rattle.sdp.specs.declared.Text.{Text}
use Rattle.sdp.specs.declared.media_line.MediaLine.{MediaLine}
use Rattle.sdp.specs.declared.section.Section.{Section}
use Rattle.sdp.specs.declared.section.Session.{Session}

-- "Text at most 4,096 bytes"; "8 `m=` lines"
abbrev pub most_text : ℕ
most_text = 4096

abbrev pub most_media : ℕ
most_media = 8

-- eight places: what there is, then nothing
abbrev pub eight : {A : Type 0} → A → List A → List A
eight none l = l ++ replicate (most_media - length l) none

-- a refusal: its number and place, and nothing else
abbrev pub refusal : ℕ → ℕ → Text
refusal k place = record { refusal = k; place = place; count = 0; media = eight no_media []; spots = eight no_spot [] }

-- a good text: its media descriptions, and where their lines stand
abbrev pub good : Session → List Section → Text
good session ms =
    record {
      refusal = 0;
      place = 0;
      count = length ms;
      media = eight no_media (map (closed session) ms);
      spots = eight no_spot (map (λ (s : Section). s.spot) ms);
    }

-- the `m=` line of the first media section with a live port and no address, or 0
unfoldable pub lacking : Session → List Section → ℕ
lacking session [] = 0
lacking session (s ∷ ms) = cond (lacks (closed session s)) s.line (lacking session ms)

-- 9: "live port without address, lowest"
abbrev pub good_unless9 : Session → List Section → Text
good_unless9 session ms = cond (eqb (lacking session ms) 0) (good session ms) (refusal 9 (lacking session ms))

-- where reading stands: in the session section; or after it in a media section, with what the session section says and the media sections that have ended
pub data Reading : Type 0 where
  in_session : (here : Section) → Reading
  in_media : (session : Session) → (ended : List Section) → (here : Section) → Reading

-- how many `m=` lines there were; the section that a line stands in; what the session section says; whether the line stands in a media section
abbrev pub media_lines : Reading → ℕ
media_lines (in_session here) = 0
media_lines (in_media session ended here) = length ended + 1

abbrev pub section_at : Reading → Section
section_at (in_session here) = here
section_at (in_media session ended here) = here

abbrev pub session_at : Reading → Session
session_at (in_session here) = session_of here
session_at (in_media session ended here) = session

abbrev pub inside : Reading → Bool
inside (in_session here) = false
inside (in_media session ended here) = true

-- with another section there; with the section there ended, and the next begun
abbrev pub replaced : Reading → Section → Reading
replaced (in_session here) s = in_session s
replaced (in_media session ended here) s = in_media session ended s

abbrev pub next_section : Reading → Section → Reading
next_section (in_session here) next = in_media (session_of here) [] next
next_section (in_media session ended here) next = in_media session (ended ++ (here ∷ [])) next

-- all lines are good
unfoldable pub whole : Reading → Text
whole (in_session here) = good_unless9 (session_of here) []
whole (in_media session ended here) = good_unless9 session (ended ++ (here ∷ []))

-- what a good line does: reading goes on, or it stops with a fault
pub data Step : Type 0 where
  go : Reading → Step
  stop : ℕ → Step

abbrev pub on_media : Result MediaLine Fault → (MediaLine → Step) → Step
on_media (Ok m) f = f m
on_media (Err k) f = stop (fault_number k)

abbrev pub on_told : Result Section Fault → (Section → Step) → Step
on_told (Ok s) f = f s
on_told (Err k) f = stop (fault_number k)

-- the n-th line, l, from `at` on. `m=` starts a section; after eight it is the ninth, and 5 comes before its own faults
unfoldable pub step : ℕ → ℕ → List ℕ → Reading → Step
step n at l here =
    cond (eqb (letter l) (code "m"))
    (cond (leb most_media (media_lines here)) (stop 5)
    (on_media (media_of (value l)) λ m. go (next_section here (begun (session_at here) m n at (at + length l)))))
    (on_told (line_in (section_at here) (inside here) (letter l) (value l) at (at + length l)) λ s. go (replaced here s))

abbrev pub on_step : {A : Type 0} → Step → (ℕ → A) → (Reading → A) → A
on_step (go here) bad f = f here
on_step (stop k) bad f = bad k

-- the lines from the n-th on, which starts at `at`, cut at each LF: each tested for 2 and then its own kind. After the last LF stands
-- nothing, or a line without its ending. (What is cut has at least one part, so that the first clause is never met.)
unfoldable pub read_from : ℕ → ℕ → List (List ℕ) → Reading → Text
read_from n at [] here = whole here
read_from n at (p ∷ []) here = cond (is_empty p) (whole here) (refusal 2 n)
read_from n at (p ∷ q ∷ ps) here =
    cond (is_line (bare p))
    (on_step (step n at (bare p) here) (λ k. refusal k n) λ next. read_from (n + 1) (at + length p + 1) (q ∷ ps) next)
    (refusal 2 n)

-- "Line 1 is exactly `v=0`."
unfoldable pub read_lines : List (List ℕ) → Text
read_lines [] = refusal 2 1
read_lines (p ∷ []) = refusal 2 1
read_lines (p ∷ q ∷ ps) = cond (is_word (bytes "v=0") (bare p)) (read_from 2 (length p + 1) (q ∷ ps) (in_session no_section)) (refusal 2 1)

-- "Text at most 4,096 bytes."
unfoldable pub read_text : List ℕ → Text
read_text t = cond (ltb most_text (length t)) (refusal 1 0) (read_lines (split lf t))
