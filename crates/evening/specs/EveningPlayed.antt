-- What the player promises of a call file that is well formed: the evening that it prints is one of which demand 3 speaks.
use Rattle.std.specs.Prelude.{ℕ, suc, ◌≤◌, ◌≡◌, List, [], ◌∷◌, ◌++◌, map, cond, ℤ, pos, ◌+ℤ◌, length}
use Rattle.flow.specs.declared.Settings.{Settings}
use Rattle.book.specs.declared.Row.{Row}
use Rattle.book.specs.Model.{Call, offers, answers, cancels, closes, asks, states, Out, end}
use Rattle.book.specs.Serial.{Entry}
use Rattle.book.specs.Demand3.{fresh_book, came, change_up, change_down, Demand3}
use Rattle.book.specs.Totals.{booked_up_all, booked_down_all}
use Rattle.cursor.specs.Cursor.{on_some}
use Rattle.flow.specs.Range.{no_settings}
use Rattle.callfile.specs.Ask.{letter_o, letter_a, letter_c, letter_x, letter_b, asks_from}
use Rattle.callfile.specs.Sections.{read_file}
use Rattle.evening.specs.Playing.{call_as, tells_change, answer_line, calls_line, booked_line, output}

-- the settings of the file, and its calls in their order
abbrev pub file_settings : List ℕ → Settings
file_settings s = on_some (read_file s) no_settings λ file. file.settings

abbrev pub file_calls : List ℕ → List Call
file_calls s = on_some (read_file s) [] λ file. map (call_as s file.texts.spans) (asks_from file.calls s file.texts.count file.at.at)

-- "The book has 16 fresh rows.": the calls as they came, each with its answer, and the rows in the end
abbrev pub file_came : List ℕ → List Entry
file_came s = came (file_settings s) 16 (file_calls s)

abbrev pub file_end : List ℕ → List Row
file_end s = end (file_settings s) (fresh_book 16) (file_calls s)

-- the letter of a call; no file asks for a statement
unfoldable pub letter_of : Call → ℕ
letter_of (offers session origin text) = letter_o
letter_of (answers session text) = letter_a
letter_of (cancels session) = letter_c
letter_of (closes session) = letter_x
letter_of (asks session bearer) = letter_b
letter_of (states session room) = 0

-- a line for each call that came, with its answer
unfoldable pub entry_lines : ℕ → List Entry → List ℕ
entry_lines position [] = []
entry_lines position (e ∷ l) = answer_line position (letter_of e.call) e.out.reply ++ entry_lines (suc position) l

-- the sum of the changes that stand on these lines, up or down
unfoldable pub printed_sum : (Out → ℤ) → List Entry → ℤ
printed_sum change [] = pos 0
printed_sum change (e ∷ l) = cond (tells_change (letter_of e.call)) (change e.out) (pos 0) +ℤ printed_sum change l

pub record EveningPlayed (s : List ℕ) : Type 0 where
  -- the count of the calls, the answer to each as it came, and what is booked in the end
  pub lines : output s ≡ calls_line (length (file_calls s)) ++ (entry_lines 1 (file_came s) ++ booked_line (file_end s))
  -- of these calls, answers and rows demand 3 speaks
  pub demand_3 : Demand3 (file_settings s) 16 (file_calls s)
  -- the changes on the lines add up to what the rows book in the end, which the last line prints
  pub up : printed_sum change_up (file_came s) ≡ pos (booked_up_all (file_end s))
  pub down : printed_sum change_down (file_came s) ≡ pos (booked_down_all (file_end s))
  -- they lie within the pool
  pub pooled : (booked_up_all (file_end s) ≤ (file_settings s).pool.up) × (booked_down_all (file_end s) ≤ (file_settings s).pool.down)
