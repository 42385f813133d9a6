-- A call whose session has a row acts on that row; any other is refused with 10, and the book stays. Assumes nothing.
use Prim.Native.Nat.{◌<◌}
use mathlib.Core.Path.{◌≡◌}
use mathlib.Core.Bool.{true, false}
use mathlib.Core.List.{List, []}
use lib.Dec.{ltb, eqb}
use lib.ListN.{length, get_or, set}
use borrow.Author.Tests.{lt-ltb, eqb-true, eqb-false, not-true, not-false}
use Rattle.flow.specs.declared.Settings.{Settings}
use Rattle.book.specs.declared.Row.{Row}
use Rattle.book.specs.Calls.{fresh_row, refused_with}
use Rattle.book.specs.Look.{nothing_seen}
use Rattle.book.specs.Model.{Call, session_of, Out, After, look, row_call, call_of}
use Rattle.book.specs.Serial.{refused}

module _ (settings : Settings) (rows : List Row) (call : Call) where
  -- the call on the row that it names
  abbrev pub acts : After
  acts = row_call settings (look nothing_seen rows) (get_or rows (session_of call) fresh_row) call

  -- Where its session has a row, a call leaves the book but for that row.
  pub rows_in : session_of call < length rows → (call_of settings rows call).rows ≡ set rows (session_of call) acts.row
  unfolding call_of
  rows_in lt = rw (lt-ltb (session_of call) (length rows) lt)

  -- It answers what it does on that row.
  pub out_in : session_of call < length rows → (call_of settings rows call).out ≡ acts.out
  unfolding call_of
  out_in lt = rw (lt-ltb (session_of call) (length rows) lt)

  -- Where its session has none, it leaves the book.
  pub rows_far : ltb (session_of call) (length rows) ≡ false → (call_of settings rows call).rows ≡ rows
  unfolding call_of
  rows_far e = rw e

  -- It is refused with 10.
  pub out_far : ltb (session_of call) (length rows) ≡ false → (call_of settings rows call).out ≡ record { reply = refused_with 10 0; bytes = [] }
  unfolding call_of
  out_far e = rw e

-- The number of a refused call is not 0.
pub refused_number : (out : Out) → refused out ≡ true → out.reply.refusal ≡ 0 → ⊥
refused_number out e = eqb-false out.reply.refusal 0 (not-true (eqb out.reply.refusal 0) e)

-- The number of an accepted call is 0.
pub accepted_number : (out : Out) → refused out ≡ false → out.reply.refusal ≡ 0
accepted_number out e = eqb-true out.reply.refusal 0 (not-false (eqb out.reply.refusal 0) e)
