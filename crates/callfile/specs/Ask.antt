-- One call's line. "O: session, origin, text from 0. A: session, text. C (cancel) and X (close): session. B: session, set, class, up, down."
use Rattle.std.specs.Prelude.{ℕ, zero, suc, Option, Some, None, ◌+◌, List, [], ◌∷◌, Bool, false, cond, leb, eqb, length, get_or}
use Rattle.cursor.specs.Cursor.{mark_at, on_some}
use Rattle.cursor.specs.declared.Cursor.{Cursor}
use Rattle.frame.specs.Frame.{numbers_at}
use Rattle.frame.specs.declared.Span.{Span}
use Rattle.callfile.specs.declared.ask.Ask.{Ask}
use Rattle.callfile.specs.declared.ask.Ask.TheVariants as ask

-- the marks of the file
abbrev pub lf : ℕ
lf = 10

abbrev pub space : ℕ
space = 32

-- the letters in ASCII
abbrev pub letter_o : ℕ
letter_o = 79

abbrev pub letter_a : ℕ
letter_a = 65

abbrev pub letter_c : ℕ
letter_c = 67

abbrev pub letter_x : ℕ
letter_x = 88

abbrev pub letter_b : ℕ
letter_b = 66

-- how many figures stand behind a letter; 0 behind any other
unfoldable pub figure_count : ℕ → ℕ
figure_count letter =
    cond (eqb letter letter_o) 3
    (cond (eqb letter letter_a) 2
    (cond (eqb letter letter_c) 1
    (cond (eqb letter letter_x) 1
    (cond (eqb letter letter_b) 5 0))))

-- the call of a letter with its figures
unfoldable pub ask_with : ℕ → List ℕ → Ask
ask_with letter figures =
    cond (eqb letter letter_o) (ask.Offer (get_or figures 0 0) (get_or figures 1 0) (get_or figures 2 0))
    (cond (eqb letter letter_a) (ask.Answer (get_or figures 0 0) (get_or figures 1 0))
    (cond (eqb letter letter_c) (ask.Cancel (get_or figures 0 0))
    (cond (eqb letter letter_x) (ask.Close (get_or figures 0 0))
    (ask.Bearer (get_or figures 0 0)
    (record { set = get_or figures 1 0; class = get_or figures 2 0; up = get_or figures 3 0; down = get_or figures 4 0 })))))

unfoldable pub letter : Ask → ℕ
letter (ask.Offer session origin text) = letter_o
letter (ask.Answer session text) = letter_a
letter (ask.Cancel session) = letter_c
letter (ask.Close session) = letter_x
letter (ask.Bearer session asked) = letter_b

unfoldable pub session : Ask → ℕ
session (ask.Offer n origin text) = n
session (ask.Answer n text) = n
session (ask.Cancel n) = n
session (ask.Close n) = n
session (ask.Bearer n asked) = n

-- the number of the text of an O and of an A
unfoldable pub text_number : Ask → Option ℕ
text_number (ask.Offer session origin text) = Some text
text_number (ask.Answer session text) = Some text
text_number (ask.Cancel session) = None
text_number (ask.Close session) = None
text_number (ask.Bearer session asked) = None

-- "A text number not in the file makes it malformed."
unfoldable pub lacks_text : Ask → ℕ → Bool
lacks_text (ask.Offer session origin text) texts = leb texts text
lacks_text (ask.Answer session text) texts = leb texts text
lacks_text (ask.Cancel session) texts = false
lacks_text (ask.Close session) texts = false
lacks_text (ask.Bearer session asked) texts = false

-- what stands behind a letter: a space before each figure
unfoldable pub behind : ℕ → List ℕ → ℕ → Option (Ask × Cursor)
behind letter s at =
    cond (eqb (figure_count letter) 0) None
    (on_some (numbers_at s at (figure_count letter) space) None λ (figures, p).
    Some (ask_with letter figures, p))

-- letter, a space before each figure, LF
unfoldable pub ask_at : List ℕ → ℕ → ℕ → Option (Ask × Cursor)
ask_at s at texts =
    cond (leb (length s) at) None
    (on_some (behind (get_or s at 0) s (at + 1)) None λ (ask, p).
    on_some (mark_at s p.at lf) None λ q.
    cond (lacks_text ask texts) None (Some (ask, q)))

abbrev pub no_span : Span
no_span = record { from = 0; end = 0 }

-- the text that an O or an A names; no other call looks at it
unfoldable pub span_of : List Span → Ask → Span
span_of spans ask = on_some (text_number ask) no_span λ n. get_or spans n no_span

-- k calls more, up to the first line that is none
unfoldable pub asks_from : ℕ → List ℕ → ℕ → ℕ → List Ask
asks_from zero s texts at = []
asks_from (suc k) s texts at = on_some (ask_at s at texts) [] λ (ask, p). ask ∷ asks_from k s texts p.at

-- k calls more stand from the place `at` on, "and nothing after the last call"
unfoldable pub calls_good : ℕ → List ℕ → ℕ → ℕ → Bool
calls_good zero s texts at = eqb at (length s)
calls_good (suc k) s texts at = on_some (ask_at s at texts) false λ (ask, p). calls_good k s texts p.at
