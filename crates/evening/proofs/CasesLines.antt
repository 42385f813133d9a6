-- Each letter's line, what each call of a file means, and where the output goes: computed. Assumes nothing.
use Prim.Native.Nat.{ℕ}
use mathlib.Core.Path.{◌≡◌, refl}
use mathlib.Core.List.{List, [], ◌∷◌, ◌++◌, map}
use lib.IntN.{pos, negsuc}
use lib.ListN.{replicate}
use Rattle.cursor.specs.Bytes.{bytes}
use Rattle.book.specs.declared.Reply.{Reply}
use Rattle.book.specs.Model.{Call, offers, answers, cancels, closes, asks, states}
use Rattle.book.specs.Demand3.{change_up, change_down}
use Rattle.callfile.specs.declared.ask.Ask.{Ask}
use Rattle.callfile.specs.declared.ask.Ask.TheVariants as ask
use Rattle.callfile.specs.Ask.{letter_o, letter_a, letter_c, letter_x, letter_b, ask_with}
use Rattle.evening.specs.Playing.{call_with, call_as, answer_line, booked_line, output, output_into}
use Rattle.evening.specs.EveningPlayed.{file_came, file_end, letter_of, entry_lines, printed_sum}
use Rattle.evening.proofs.Computing.{computing}

-- "O: session, origin, text from 0. A: session, text. C (cancel) and X (close): session. B: session, set, class, up, down."
abbrev line : ℕ → Ask
line letter = ask_with letter (4294967291 ∷ 4294967292 ∷ 4294967293 ∷ 4294967294 ∷ 4294967295 ∷ 16 ∷ replicate 6 0)

abbrev meant : List Call
meant =
    offers 4294967291 4294967292 (bytes "t")
    ∷ answers 4294967291 (bytes "t")
    ∷ cancels 4294967291
    ∷ closes 4294967291
    ∷ asks 4294967291 (record { set = 4294967292; class = 4294967293; up = 4294967294; down = 4294967295 })
    ∷ []

pub calls_meant : map (λ letter. call_with (bytes "t") (line letter)) (letter_o ∷ letter_a ∷ letter_c ∷ letter_x ∷ letter_b ∷ []) ≡ meant
unfolding computing
calls_meant = refl

-- the text is all of the bytes between, however many
abbrev answers_with : ℕ → Call
answers_with end = call_as (bytes "6\n" ++ replicate 5000 97) (record { from = 2; end = end } ∷ []) (ask.Answer 1 0)

pub texts_meant : map answers_with (2 ∷ 5 ∷ 4098 ∷ 4099 ∷ 5002 ∷ [])
    ≡ map (λ n. answers 1 (replicate n 97)) (0 ∷ 3 ∷ 4096 ∷ 4097 ∷ 5000 ∷ [])
unfolding computing
texts_meant = refl

pub letters_of : map letter_of (meant ++ (states 11 12 ∷ [])) ≡ letter_o ∷ letter_a ∷ letter_c ∷ letter_x ∷ letter_b ∷ 0 ∷ []
unfolding computing
letters_of = refl

-- "per call its position from 1, letter, refusal or 0, place; then two changes (A, X) or class, up, down (B)": one answer on each letter's line
abbrev reply : Reply
reply =
    record {
      refusal = 12;
      place = 345;
      change = record { up = pos 67; down = negsuc 88 };
      class = 9;
      granted = record { up = record { 0 = 1011 }; down = record { 0 = 4294967295 } };
      length = 13;
    }

pub lines_of_lem : map (λ letter. answer_line 109 letter reply) (letter_o ∷ letter_a ∷ letter_c ∷ letter_x ∷ letter_b ∷ [])
    ≡ bytes "109 O 12 345\n"
    ∷ bytes "109 A 12 345 67 -89\n"
    ∷ bytes "109 C 12 345\n"
    ∷ bytes "109 X 12 345 67 -89\n"
    ∷ bytes "109 B 12 345 9 1011 4294967295\n"
    ∷ []
unfolding computing
lines_of_lem = refl

-- the bytes past the output stay; without room nothing changes
abbrev bad : List ℕ
bad = bytes "bad file\n"

pub into_buffer : map (output_into []) (bytes "12345678" ∷ bytes "123456789" ∷ bytes "1234567890" ∷ []) ≡ bytes "12345678" ∷ bad ∷ (bad ++ bytes "0") ∷ []
unfolding computing
into_buffer = refl

-- twelve calls, among them those of the sessions 15 and 16, of which there is no 16: a bad text's place, an answer that is refused with changes of 0 and 0, a bearer's
-- refusal, a cancel that is accepted and one that is not, booked totals that differ up and down
abbrev file : List ℕ
file =
    bytes "6\n100000\n100000\n5000\n5000\n1000000\n1000000\n"
    ++ (bytes "3\n0\n55\nv=0\nc=IN IP4 192.0.2.1\nm=audio 40000 RTP/AVP 0\nb=AS:64\n"
    ++ (bytes "47\nv=0\nc=IN IP4 192.0.2.9\nm=audio 50000 RTP/AVP 0\n"
    ++ bytes "12\nO 15 1 1\nC 15\nC 15\nO 15 0 0\nO 15 1 1\nA 15 0\nA 15 2\nB 15 1 2 67200 105000\nB 15 9 2 5 6\nX 16\nB 16 1 2 0 0\nO 15 2 1\n"))

abbrev lines : List ℕ
lines =
    bytes "1 O 0 0\n2 C 0 0\n3 C 12 0\n4 O 2 1\n5 O 0 0\n6 A 2 1 0 0\n7 A 0 0 67200 105000\n8 B 0 0 2 67200 105000\n9 B 18 0 0 0 0\n"
    ++ bytes "10 X 10 0 0 0\n11 B 10 0 0 0 0\n12 O 10 0\n"

pub whole_evening : output file ≡ bytes "calls 12\n" ++ (lines ++ bytes "booked 67200 105000\n")
unfolding computing
whole_evening = refl

-- two sessions at once and a third that the pool has no room for, then one is closed; up and down differ in each setting
abbrev crossing : List ℕ
crossing =
    bytes "6\n100000\n200000\n5000\n6000\n277199\n1000000\n"
    ++ (bytes "2\n55\nv=0\nc=IN IP4 192.0.2.1\nm=audio 40000 RTP/AVP 0\nb=AS:64\n"
    ++ (bytes "47\nv=0\nc=IN IP4 192.0.2.9\nm=audio 50000 RTP/AVP 0\n"
    ++ bytes "9\nO 0 0 0\nO 5 1 0\nA 0 1\nA 5 1\nO 7 0 0\nA 7 1\nX 0\nA 7 1\nX 0\n"))

pub crossing_evening : output crossing
    ≡ bytes "calls 9\n1 O 0 0\n2 O 0 0\n3 A 0 0 105000 67200\n4 A 0 0 67200 206000\n5 O 0 0\n6 A 16 0 0 0\n7 X 0 0 -105000 -67200\n8 A 0 0 105000 67200\n"
    ++ bytes "9 X 13 0 0 0\nbooked 172200 273200\n"
unfolding computing
crossing_evening = refl

pub sums_crossing : (printed_sum change_up (file_came crossing) ≡ pos 172200) × (printed_sum change_down (file_came crossing) ≡ pos 273200)
    × (booked_line (file_end crossing) ≡ bytes "booked 172200 273200\n")
unfolding computing
sums_crossing = (refl, refl, refl)

-- "Zero texts and zero calls are good."
pub no_calls : output (bytes "6\n1\n2\n3\n4\n5\n6\n0\n0\n") ≡ bytes "calls 0\nbooked 0 0\n"
unfolding computing
no_calls = refl

-- the same lines from the log, the last from the rows in the end, and the sums of the changes on them
pub lines_logged : entry_lines 1 (file_came file) ≡ lines
unfolding computing
lines_logged = refl

pub booked_printed : booked_line (file_end file) ≡ bytes "booked 67200 105000\n"
unfolding computing
booked_printed = refl

pub sums_printed : (printed_sum change_up (file_came file) ≡ pos 67200) × (printed_sum change_down (file_came file) ≡ pos 105000)
unfolding computing
sums_printed = (refl, refl)
