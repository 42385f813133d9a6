-- The row that a call on lent rows names, and a step on it.
use Rattle.std.specs.Prelude.{ℕ, ◌≡◌, cond, List, Result, Ok, Err, length, ltb, set}
use Rattle.book.specs.declared.refusal.Refused.{Refused}
use Rattle.book.specs.declared.Reply.{Reply}
use Rattle.book.specs.declared.Row.{Row}
use Rattle.book.specs.declared.Seen.{Seen}
use Rattle.book.specs.declared.Stepped.{Stepped}
use Rattle.book.specs.Calls.{fresh_row, stays}
use Rattle.book.specs.Look.{nothing_seen}
use Rattle.book.specs.Model.{look}
use Rattle.lending.specs.Looks.{row_at}

-- what was found, seen by view
abbrev pub as_found : {A B : Type 0} → (A → B) → Result A Refused → Result B Refused
as_found view (Ok x) = Ok (view x)
as_found view (Err e) = Err e

-- the row, and what the look at all rows saw; 10 past the rows lent
unfoldable pub found_at : List Row → ℕ → Result (Row × Seen) Refused
found_at rows session = cond (ltb session (length rows)) (Ok (row_at rows session, look nothing_seen rows)) (Err (record { refusal = 10; place = 0 }))

-- a step on what was found, or the refusal
abbrev pub stepped_on : (Row → Seen → Stepped) → Result (Row × Seen) Refused → Stepped
stepped_on call (Ok found) = call found.0 found.1
stepped_on call (Err e) = stays fresh_row e.refusal e.place

abbrev pub stepped_at : (Row → Seen → Stepped) → List Row → ℕ → Stepped
stepped_at call rows session = stepped_on call (found_at rows session)

-- what a step gave is kept: its answer is given, and its row stored where there is one
abbrev pub Keeps : List Row → ℕ → Stepped → Reply → List Row → Type 0
Keeps rows session step reply kept = (reply ≡ step.reply) × (kept ≡ set rows session step.row)
