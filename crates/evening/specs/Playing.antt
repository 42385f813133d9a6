-- The playing program: what is printed for a call file.
use Rattle.std.specs.Prelude.{ℕ, suc, Option, List, [], ◌∷◌, ◌++◌, map, Bool, cond, ◌||◌, leb, eqb, length, drop}
use Rattle.cursor.specs.Bytes.{bytes}
use Rattle.cursor.specs.Cursor.{on_some}
use Rattle.cursor.specs.Parts.{part}
use Rattle.frame.specs.declared.Span.{Span}
use Rattle.put.specs.Number.{decimal, signed}
use Rattle.flow.specs.declared.Settings.{Settings}
use Rattle.book.specs.declared.Reply.{Reply}
use Rattle.book.specs.declared.Row.{Row}
use Rattle.book.specs.Model.{Call, offers, answers, cancels, closes, asks, Out, log, end}
use Rattle.book.specs.Demand3.{fresh_book}
use Rattle.book.specs.Totals.{booked_up_all, booked_down_all}
use Rattle.callfile.specs.declared.CallFile.{CallFile}
use Rattle.callfile.specs.declared.ask.Ask.{Ask}
use Rattle.callfile.specs.declared.ask.Ask.TheVariants as ask
use Rattle.callfile.specs.Ask.{lf, space, letter_a, letter_x, letter_b, letter, span_of, asks_from}
use Rattle.callfile.specs.Sections.{read_file}

-- the bytes of a text
abbrev pub spanned : List ℕ → Span → List ℕ
spanned s span = part s span.from span.end

-- "O: session, origin, text from 0. A: session, text. C (cancel) and X (close): session. B: session, set, class, up, down."
unfoldable pub call_with : List ℕ → Ask → Call
call_with text (ask.Offer session origin number) = offers session origin text
call_with text (ask.Answer session number) = answers session text
call_with text (ask.Cancel session) = cancels session
call_with text (ask.Close session) = closes session
call_with text (ask.Bearer session asked) = asks session asked

unfoldable pub call_as : List ℕ → List Span → Ask → Call
call_as s spans ask = call_with (spanned s (span_of spans ask)) ask

-- the rest of a line: a space before each field, and LF
unfoldable pub ended : List (List ℕ) → List ℕ
ended [] = lf ∷ []
ended (field ∷ fields) = space ∷ (field ++ ended fields)

-- "then two changes (A, X) or class, up, down (B)"
abbrev pub tells_change : ℕ → Bool
tells_change letter = eqb letter letter_a || eqb letter letter_x

unfoldable pub tail_of : ℕ → Reply → List (List ℕ)
tail_of letter reply =
    cond (tells_change letter) (signed reply.change.up ∷ signed reply.change.down ∷ [])
    (cond (eqb letter letter_b) (decimal reply.class ∷ decimal reply.granted.up.0 ∷ decimal reply.granted.down.0 ∷ [])
    [])

-- "per call its position from 1, letter, refusal or 0, place"
unfoldable pub answer_line : ℕ → ℕ → Reply → List ℕ
answer_line position letter reply =
    decimal position ++ ended ((letter ∷ []) ∷ decimal reply.refusal ∷ decimal reply.place ∷ tail_of letter reply)

unfoldable pub answer_lines : ℕ → List Ask → List Out → List ℕ
answer_lines position [] outs = []
answer_lines position (ask ∷ l) [] = []
answer_lines position (ask ∷ l) (out ∷ outs) = answer_line position (letter ask) out.reply ++ answer_lines (suc position) l outs

-- "`calls` and their count"; "last `booked`, total up, total down"
unfoldable pub calls_line : ℕ → List ℕ
calls_line count = bytes "calls" ++ ended (decimal count ∷ [])

unfoldable pub booked_line : List Row → List ℕ
booked_line rows = bytes "booked" ++ ended (decimal (booked_up_all rows) ∷ decimal (booked_down_all rows) ∷ [])

-- calls played on a book, the first of them at this position: their answers, and what is booked in the end
unfoldable pub answered : Settings → List Row → ℕ → List ℕ → List Span → List Ask → List ℕ
answered settings rows position s spans l =
    answer_lines position l (log settings rows (map (call_as s spans) l)) ++ booked_line (end settings rows (map (call_as s spans) l))

-- "The book has 16 fresh rows."
unfoldable pub evening : List ℕ → CallFile → List ℕ
evening s file = calls_line file.calls ++ answered file.settings (fresh_book 16) 1 s file.texts.spans (asks_from file.calls s file.texts.count file.at.at)

-- "A malformed file prints `bad file` alone."
unfoldable pub output_of : List ℕ → Option CallFile → List ℕ
output_of s file = on_some file (bytes "bad file\n") (evening s)

unfoldable pub output : List ℕ → List ℕ
output s = output_of s (read_file s)

-- what the buffer l holds afterwards: the output before the bytes past its end, or l as it was where the output does not fit
unfoldable pub output_into : List ℕ → List ℕ → List ℕ
output_into s l = cond (leb (length (output s)) (length l)) (output s ++ drop (length (output s)) l) l
