-- What is read: the settings, where each text stands, each call with its figures and the text that it names; and what a malformed part
-- gives: computed. Assumes nothing.
use Prim.Native.Nat.{ℕ, zero, suc}
use mathlib.Core.Path.{◌≡◌, refl}
use mathlib.Core.List.{List, [], ◌∷◌, ◌++◌, map}
use mathlib.Core.Bool.{false}
use lib.ListN.{length, replicate}
use Rattle.cursor.specs.Bytes.{bytes}
use Rattle.std.specs.Prelude.{Some, None}
use Rattle.cursor.specs.Cursor.{on_some}
use Rattle.frame.specs.declared.Span.{Span}
use Rattle.flow.specs.declared.Settings.{Settings}
use Rattle.callfile.specs.declared.ask.Ask.{Ask}
use Rattle.callfile.specs.declared.ask.Ask.TheVariants as ask
use Rattle.callfile.specs.Ask.{letter_o, letter_a, letter_c, letter_x, letter_b, figure_count, ask_with, letter, session, lacks_text, ask_at, text_number, span_of, asks_from, calls_good}
use Rattle.callfile.specs.Sections.{settings_of, settings_at, texts_at, file_of, read_file}
use Rattle.callfile.proofs.Computing.{computing}

-- six settings, all different; three texts, the second empty, the third with a number and LF in it; seven calls
abbrev file : List ℕ
file = bytes "6\n11\n12\n13\n14\n15\n16\n3\n2\nxy0\n3\n9\nz7\nO 7 1 2\nA 8 0\nC 9\nX 10\nB 11 12 13 14 15\nO 4294967295 4294967295 1\nA 0 2\n"

-- "media default up and down, RTCP default up and down, pool up and down"
abbrev settings : Settings
settings = record { media = record { up = 11; down = 12 }; rtcp = record { up = 13; down = 14 }; pool = record { up = 15; down = 16 } }

abbrev zeros : Settings
zeros = record { media = record { up = 0; down = 0 }; rtcp = record { up = 0; down = 0 }; pool = record { up = 0; down = 0 } }

abbrev part : ℕ → ℕ → Span
part from end = record { from = from; end = end }

-- "texts (length line, then bytes)": where each stands, and 0 and 0 in the places of those that are not there
abbrev spans : List Span
spans = part 24 26 ∷ part 28 28 ∷ part 30 33 ∷ replicate 61 (part 0 0)

pub file_read : read_file file ≡ Some (file_of settings (record { count = 3; spans = spans }) 7 (record { at = 35 }))
unfolding computing
file_read = refl

-- "O: session, origin, text from 0. A: session, text. C (cancel) and X (close): session. B: session, set, class, up, down."
abbrev bears : ℕ → ℕ → ℕ → ℕ → ℕ → Ask
bears session set class up down = ask.Bearer session (record { set = set; class = class; up = up; down = down })

abbrev calls : List Ask
calls =
    ask.Offer 7 1 2
    ∷ ask.Answer 8 0
    ∷ ask.Cancel 9
    ∷ ask.Close 10
    ∷ bears 11 12 13 14 15
    ∷ ask.Offer 4294967295 4294967295 1
    ∷ ask.Answer 0 2
    ∷ []

pub calls_read : asks_from 7 file 3 35 ≡ calls
unfolding computing
calls_read = refl

-- where the line after each begins
abbrev after : ℕ → ℕ
after at = on_some (ask_at file at 3) 0 λ (ask, p). p.at

pub calls_end_at : map after (35 ∷ 43 ∷ 49 ∷ 53 ∷ 58 ∷ 75 ∷ 101 ∷ []) ≡ 43 ∷ 49 ∷ 53 ∷ 58 ∷ 75 ∷ 101 ∷ 107 ∷ []
unfolding computing
calls_end_at = refl

pub letters_read : map letter calls ≡ 79 ∷ 65 ∷ 67 ∷ 88 ∷ 66 ∷ 79 ∷ 65 ∷ []
unfolding computing
letters_read = refl

pub sessions_read : map session calls ≡ 7 ∷ 8 ∷ 9 ∷ 10 ∷ 11 ∷ 4294967295 ∷ 0 ∷ []
unfolding computing
sessions_read = refl

-- no more than are there, and none from a line that is no call; no call stands in no bytes
pub calls_end : (length (asks_from 8 file 3 35) ≡ 7) × (length (asks_from 2 (bytes "C 0\nA 0 2\n") 2 0) ≡ 1)
    × (asks_from 7 file 3 34 ≡ []) × (asks_from 0 file 3 35 ≡ []) × (calls_good 1 [] 1 0 ≡ false)
unfolding computing
calls_end = (refl, refl, refl, refl, refl)

-- the text of an O is its third figure, that of an A its second; no other call names one
pub texts_numbered : map text_number calls ≡ Some 2 ∷ Some 0 ∷ None ∷ None ∷ None ∷ Some 1 ∷ Some 2 ∷ []
unfolding computing
texts_numbered = refl

pub texts_named : map (span_of spans) calls ≡ part 30 33 ∷ part 24 26 ∷ part 0 0 ∷ part 0 0 ∷ part 0 0 ∷ part 28 28 ∷ part 30 33 ∷ []
unfolding computing
texts_named = refl

-- .. the last of 64 too
abbrev many : List Span
many = replicate 63 (part 1 2) ++ (part 3 4 ∷ [])

pub last_named : (span_of many (ask.Offer 0 0 63) ≡ part 3 4) × (span_of many (ask.Answer 0 63) ≡ part 3 4) × (span_of spans (ask.Answer 0 64) ≡ part 0 0)
unfolding computing
last_named = (refl, refl, refl)

-- "Leading zeros are good within 10 digits": each number is the same with them.
abbrev zeroed : List ℕ
zeroed = bytes "06\n011\n0000000012\n13\n0014\n15\n16\n01\n002\nxy01\nO 007 01 000\n"

pub zeros_read : (read_file zeroed ≡ Some (file_of settings (record { count = 1; spans = part 39 41 ∷ replicate 63 (part 0 0) }) 1 (record { at = 44 })))
    × (ask_at zeroed 44 1 ≡ Some (ask.Offer 7 1 0, record { at = 57 }))
unfolding computing
zeros_read = (refl, refl)

-- What is malformed gives nothing: a call, the settings, the texts, the file.
pub no_call : map (λ (call : List ℕ). ask_at call 0 1) (bytes "E 0\n" ∷ bytes "C\n" ∷ bytes "C 0" ∷ bytes "A 0 1\n" ∷ [] ∷ []) ≡ replicate 5 None
unfolding computing
no_call = refl

pub no_settings_lem : map settings_at (bytes "5\n1\n2\n3\n4\n5\n" ∷ bytes "6\n1\n2\n3\n4\n5\n" ∷ bytes "6\n1\n2\n3\n4\n5\n6" ∷ [] ∷ []) ≡ replicate 4 None
unfolding computing
no_settings_lem = refl

pub no_texts_lem : map (λ (texts : List ℕ). texts_at texts 0) (bytes "65\n" ∷ bytes "1\n2\nx" ∷ [] ∷ []) ≡ replicate 3 None
unfolding computing
no_texts_lem = refl

pub no_file_lem : map read_file (bytes "6\n" ∷ bytes "6\n1\n2\n3\n4\n5\n6\n65\n" ∷ bytes "6\n1\n2\n3\n4\n5\n6\n0\nC 0\n" ∷ bytes "6\n1\n2\n3\n4\n5\n6\n0\n1\n" ∷ [])
    ≡ replicate 4 None
unfolding computing
no_file_lem = refl

-- "O: session, origin, text .. A: session, text. C .. and X ..: session. B: session, set, class, up, down.": how many figures, of all 256 bytes
abbrev from : ℕ → ℕ → List ℕ
from n zero = []
from n (suc k) = n ∷ from (suc n) k

pub letters : map figure_count (from 0 256)
    ≡ replicate 65 0 ++ (2 ∷ 5 ∷ 1 ∷ replicate 11 0) ++ (3 ∷ replicate 8 0) ++ (1 ∷ replicate 167 0)
unfolding computing
letters = refl

-- A figure that is not there is 0.
pub no_figure : (settings_of [] ≡ zeros) × (ask_with letter_o [] ≡ ask.Offer 0 0 0) × (ask_with letter_a [] ≡ ask.Answer 0 0)
    × (ask_with letter_c [] ≡ ask.Cancel 0) × (ask_with letter_x [] ≡ ask.Close 0) × (ask_with letter_b [] ≡ bears 0 0 0 0 0)
    × (lacks_text (ask_with letter_o []) 1 ≡ false) × (lacks_text (ask_with letter_a []) 1 ≡ false) × (figure_count 69 ≡ 0)
unfolding computing
no_figure = (refl, refl, refl, refl, refl, refl, refl, refl, refl)
