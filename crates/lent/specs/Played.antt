-- Demand 3 of calls on lent rows, said of what the calls gave, and of each call only what is promised.
use Rattle.std.specs.Prelude.{ℕ, ◌<◌, ◌≡◌, cond, List, [], ◌∷◌, map, eqb, pos, get_or, take}
use Rattle.flow.specs.declared.Settings.{Settings}
use Rattle.book.specs.declared.Row.{Row}
use Rattle.book.specs.Calls.{fresh_row, settled}
use Rattle.book.specs.Demand3.{fresh_book, row_of, past_of, change_up, change_down, sum_of_changes}
use Rattle.book.specs.Model.{Call, Out}
use Rattle.book.specs.Serial.{Entry, paired, calls_of, serial}
use Rattle.book.specs.Totals.{booked_up_all, booked_down_all}
use Rattle.lent.specs.Lent.{Made, Promised}

-- "with the same settings and the same rows lent at every call and the book touched by nothing else": each call finds the rows as the one before
-- left them
abbrev pub Played : Settings → List Row → List Call → List Made → Type 0
Played settings rows [] [] = Unit {0}
Played settings rows [] (made ∷ mades) = ⊥
Played settings rows (call ∷ calls) [] = ⊥
Played settings rows (call ∷ calls) (made ∷ mades) = Promised settings rows call made × Played settings made.rows calls mades

-- the rows in the end
abbrev pub last_rows : List Row → List Made → List Row
last_rows rows [] = rows
last_rows rows (made ∷ mades) = last_rows made.rows mades

-- what a host reads of a call: the answer, and where it was accepted so many bytes of the buffer as the answer says
abbrev pub told : Made → Out
told made = record { reply = made.reply; bytes = cond (eqb made.reply.refusal 0) (take made.reply.length made.buffer) [] }

-- "Take any calls that came": each with what was told
abbrev pub came_lent : List Call → List Made → List Entry
came_lent calls mades = paired calls (map told mades)

-- "Leave out .. Move .."
abbrev pub left_lent : List Call → List Made → List Entry
left_lent calls mades = serial (came_lent calls mades)

-- "The signed changes reported add up to the booked totals, exactly."
pub record ChangesAdd (n : ℕ) (mades : List Made) : Type 0 where
  pub up : sum_of_changes change_up (map told mades) ≡ pos (booked_up_all (last_rows (fresh_book n) mades))
  pub down : sum_of_changes change_down (map told mades) ≡ pos (booked_down_all (last_rows (fresh_book n) mades))

-- "Each session then holds what demand 2 derives from its completed exchanges since its last close."
pub record HoldsLent (settings : Settings) (n : ℕ) (calls : List Call) (mades again : List Made) (session : ℕ) : Type 0 where
  -- after the calls as they came, its open offer with it
  pub as_came : get_or (last_rows (fresh_book n) mades) session fresh_row ≡ row_of settings (past_of session (came_lent calls mades))
  -- after the calls left
  pub as_left : get_or (last_rows (fresh_book n) again) session fresh_row ≡ settled (row_of settings (past_of session (came_lent calls mades)))

-- Demand 3 of calls on n lent rows that began fresh: what they gave, and what those left gave when played again in the serial order on n fresh rows
pub record Demand3Lent (settings : Settings) (n : ℕ) (calls : List Call) (mades again : List Made) : Type 0 where
  -- "Played that way, every call left gives the answer it gave,"
  pub answers : came_lent (calls_of (left_lent calls mades)) again ≡ left_lent calls mades
  -- "and the book ends the same but for the open offers."
  pub book : last_rows (fresh_book n) again ≡ map settled (last_rows (fresh_book n) mades)
  pub holds : (session : ℕ) → session < n → HoldsLent settings n calls mades again session
  pub changes : ChangesAdd n mades
  pub changes_again : ChangesAdd n again
