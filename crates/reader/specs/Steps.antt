-- What the private functions give, in the terms of the scan. No promise of `read` cites this file.
use Rattle.std.specs.Prelude.{ℕ, ◌+◌, ◌≤◌, List, [], ◌∷◌, ◌≡◌, Bool, true, false, cond, not, length, get_or, drop, leb, eqb, Option, Some, None, Result, Ok, Err}
use Prim.Native.Char.{code}
use Rattle.cursor.specs.Bytes.{split}
use Rattle.cursor.specs.Cursor.{on_some}
use Rattle.sdp.specs.Line.{lf, cr, bare, is_line, letter}
use Rattle.sdp.specs.Section.{no_address, no_section, begun, session_of, closed, lacks}
use Rattle.sdp.specs.Text.{refusal, in_session, read_from}
use Rattle.sdp.specs.declared.Text.{Text}
use Rattle.sdp.specs.declared.media_line.MediaLine.{MediaLine}
use Rattle.sdp.specs.declared.section.Section.{Section}
use Rattle.sdp.specs.declared.section.Session.{Session}
use Rattle.reader.specs.declared.line.Line.{Line}
use Rattle.reader.specs.declared.section.Span.{Span}
use Rattle.reader.specs.declared.scan.Here.{Here}
use Rattle.reader.specs.declared.scan.Refused.{Refused}

-- of the text from a place on, cut at each LF: the first line, its letter, where it ends and where the next one starts;
-- none where it has no LF or not the form
unfoldable pub line_of : ℕ → List (List ℕ) → Option Line
line_of at [] = None
line_of at (p ∷ []) = None
line_of at (p ∷ q ∷ ps) = cond (is_line (bare p)) (Some (record { letter = letter (bare p); end = at + length (bare p); next = at + length p + 1 })) None

unfoldable pub line_at : List ℕ → ℕ → Option Line
line_at s at = line_of at (split lf (drop at s))

-- past the ending at e: LF or CR LF. (Past the end of the text, `get_or` gives 0.)
unfoldable pub past_ending : List ℕ → ℕ → Option ℕ
past_ending s e = cond (eqb (get_or s e 0) lf) (Some (e + 1)) (cond (eqb (get_or s e 0) cr) (cond (eqb (get_or s (e + 1) 0) lf) (Some (e + 2)) None) None)

-- past the last LF of a text, or 0 where there is none
pub record LastEnd (s : List ℕ) (last : ℕ) : Type 0 where
  pub within : last ≤ length s
  pub lf : (i : ℕ) → last ≡ i + 1 → get_or s i 0 ≡ 10
  pub none : (i : ℕ) → last ≤ i → get_or s i 0 ≡ 10 → ⊥

-- what reading gives in the end: what is told so far, or the refusal
abbrev pub outcome : Text → Result (Unit {0}) Refused → Text
outcome out (Ok u) = out
outcome out (Err r) = refusal r.number r.place

-- the lines from `from` on, the first of which is line 2
abbrev pub read_on : List ℕ → ℕ → Text
read_on s from = read_from 2 from (split lf (drop from s)) (in_session no_section)

-- reading before line 2, which starts at `at`
abbrev pub start : ℕ → Here
start at =
    record {
      at = at;
      line = 2;
      lacking = None;
      count = 0;
      session = record { address = no_address; direction = 0; from = 0; to = 0 };
      section = no_section;
    }

-- whether a line ends the section before it, as the end of the good lines does
abbrev pub ends_line : Option Line → Bool
ends_line l = on_some l true λ l. eqb l.letter (code "m")

-- a media section ends where an `m=` line stands, or no good line
abbrev pub ends_here : Here → Option Line → Bool
ends_here h l = cond (eqb h.count 0) false (ends_line l)

-- the `m=` line of the section that ends here, where it lacks an address
abbrev pub lacks_here : Here → Option ℕ
lacks_here h = cond (eqb h.count 0) None (cond (lacks (closed h.session h.section)) (Some h.section.line) None)

-- the first `m=` line that lacks an address, with the section that ends here
abbrev pub lacking_here : Here → Option ℕ
lacking_here h = on_some h.lacking (lacks_here h) Some

-- no good line: the end of the text, with 9 where an address lacks; or a faulty line
abbrev pub stop_here : Here → ℕ → Result (Unit {0}) Refused
stop_here h len =
    cond (leb len h.at)
    (on_some (lacking_here h) (Ok tt) λ n. Err (record { number = 9; place = n }))
    (Err (record { number = 2; place = h.line }))

-- what the session section says, once it has ended
abbrev pub session_here : Here → Session
session_here h = cond (eqb h.count 0) (session_of h.section) h.session

-- a media section begins
abbrev pub media_after : Here → MediaLine → Span → Here
media_after h m line =
    record {
      at = h.at;
      line = h.line;
      lacking = lacking_here h;
      count = h.count + 1;
      session = session_here h;
      section = begun (session_here h) m h.line line.from line.to;
    }

abbrev pub with_section : Here → Section → Here
with_section h s = record { at = h.at; line = h.line; lacking = h.lacking; count = h.count; session = h.session; section = s }

abbrev pub inside_here : Here → Bool
inside_here h = not (eqb h.count 0)

-- whether a line other than `m=` can say anything: by its letter, and an `a=` by its length
unfoldable pub matters : ℕ → List ℕ → Bool
matters l v = cond (eqb l (code "a")) (eqb (length v) 8) (cond (eqb l (code "b")) true (eqb l (code "c")))
