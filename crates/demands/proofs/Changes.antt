-- The money: the signed changes that the calls report add up to what is booked. Assumes nothing.
use Prim.Native.Nat.{ℕ, suc, ◌+◌, ◌-◌}
use native.Mathlib.Omega.{arith}
use mathlib.Core.Path.{◌≡◌, sym, ◌∙◌, ap}
use mathlib.Core.List.{List, [], ◌∷◌}
use lib.Dec.{ltb}
use lib.IntN.{ℤ, pos, sub_ℕ, ◌+ℤ◌, +ℤ_assoc, +ℤ_idl, +ℤ_idr}
use lib.ListN.{length, get_or, set, replicate}
use borrow.Author.Tests.{ltb-true, ltb-false, le-ltb}
use Rattle.flow.specs.declared.Settings.{Settings}
use Rattle.flow.proofs.Tests.{by_test}
use Rattle.book.specs.declared.Row.{Row}
use Rattle.book.specs.declared.Seen.{Seen}
use Rattle.book.specs.Calls.{fresh_row, refused_with}
use Rattle.book.specs.Look.{nothing_seen}
use Rattle.book.specs.Model.{Call, session_of, Out, look, row_call, call_of, log, end}
use Rattle.book.specs.Totals.{sum_of}
use Rattle.book.specs.Demand3.{sum_of_changes}
use Rattle.demands.proofs.Named.{acts, rows_in, out_in, rows_far, out_far}
use Rattle.demands.proofs.Totals.{sum_set, sum_none}

-- A total and a difference of two numbers: where the new total and the old number make the old total and the new number.
add_change : (total after new old : ℕ) → after + old ≡ total + new → pos total +ℤ sub_ℕ new old ≡ pos after
add_change total after new old e =
    by_test (ltb new old)
    (λ t. rw (t, le-ltb total (suc (old - suc new)) (omega (arith, ltb-true new old t))) (ap pos (omega (arith, ltb-true new old t))))
    (λ t. rw t (ap pos (omega (arith, ltb-false new old t))))

-- one direction: what a row books of it, and the change of it that an answer reports
module _ (settings : Settings) (books : Row → ℕ) (change : Out → ℤ) (unchanged : change (record { reply = refused_with 10 0; bytes = [] }) ≡ pos 0)
    (told : (seen : Seen) (row : Row) (call : Call) → change (row_call settings seen row call).out ≡ sub_ℕ (books (row_call settings seen row call).row) (books row)) where
  -- A call adds the change that it reports.
  pub call_adds : (rows : List Row) (call : Call) → pos (sum_of books rows) +ℤ change (call_of settings rows call).out ≡ pos (sum_of books (call_of settings rows call).rows)
  call_adds rows call =
      by_test (ltb (session_of call) (length rows))
      (λ t.
      let lt = ltb-true (session_of call) (length rows) t in
      let row = get_or rows (session_of call) fresh_row in
      let now = (acts settings rows call).row in
      rw (rows_in settings rows call lt, out_in settings rows call lt, told (look nothing_seen rows) row call)
      (add_change (sum_of books rows) (sum_of books (set rows (session_of call) now)) (books now) (books row) (sum_set books rows (session_of call) now lt)))
      (λ t. rw (rows_far settings rows call t, out_far settings rows call t, unchanged) (+ℤ_idr (pos (sum_of books rows))))

  calls_add : (calls : List Call) (rows : List Row) → pos (sum_of books rows) +ℤ sum_of_changes change (log settings rows calls) ≡ pos (sum_of books (end settings rows calls))
  unfolding log end sum_of_changes
  calls_add [] rows = +ℤ_idr (pos (sum_of books rows))
  calls_add (call ∷ calls) rows =
      let next = (call_of settings rows call).rows in
      sym (+ℤ_assoc (pos (sum_of books rows)) (change (call_of settings rows call).out) (sum_of_changes change (log settings next calls)))
      ∙ ap (λ z. z +ℤ sum_of_changes change (log settings next calls)) (call_adds rows call)
      ∙ calls_add calls next

  -- From rows that book nothing the changes reported add up to what is booked in the end.
  pub changes_add : (n : ℕ) (row : Row) → books row ≡ 0 → (calls : List Call)
      → sum_of_changes change (log settings (replicate n row) calls) ≡ pos (sum_of books (end settings (replicate n row) calls))
  changes_add n row none calls =
      sym (+ℤ_idl (sum_of_changes change (log settings (replicate n row) calls)))
      ∙ ap (λ m. pos m +ℤ sum_of_changes change (log settings (replicate n row) calls)) (sym (sum_none books n row none))
      ∙ calls_add calls (replicate n row)
