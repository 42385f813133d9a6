-- Demand 3 is met: for up to 16 fresh rows, all settings in range and all calls. Assumes nothing.
use Prim.Native.Nat.{ℕ, zero, suc, ◌≤◌, ◌<◌}
use mathlib.Core.Path.{◌≡◌, refl, ◌∙◌, ap}
use mathlib.Core.List.{List, [], ◌∷◌, map}
use lib.IntN.{pos, sub_ℕ, ◌+ℤ◌}
use lib.ListN.{get_or, length-replicate, get_or-replicate, get_or-map}
use Rattle.flow.specs.declared.Settings.{Settings}
use Rattle.flow.specs.Range.{SettingsRange}
use Rattle.book.specs.declared.Change.{Change}
use Rattle.book.specs.declared.Row.{Row}
use Rattle.book.specs.declared.Seen.{Seen}
use Rattle.book.specs.Calls.{fresh_row, settled}
use Rattle.book.specs.Model.{Call, row_call, call_of, log, end}
use Rattle.book.specs.Serial.{Entry, logged, calls_of}
use Rattle.book.specs.Left.{Whole, Orderly}
use Rattle.book.specs.Totals.{row_up, row_down, booked_up_all, booked_down_all}
use Rattle.book.specs.Demand3.{fresh_book, came, left, PlaysSerially, no_past, derived_from, row_of, past_of, HoldsExchanges, change_up, change_down, ChangesAreBooked, Demand3}
use Rattle.demands.proofs.RowMeets.{book_laws}
use Rattle.demands.proofs.Changes.{call_adds, changes_add}
use Rattle.demands.proofs.Fresh.{fresh_ranges}
use Rattle.demands.proofs.Holding.{holds_past}
use Rattle.demands.proofs.RowRanges.{RowsRange}
use Rattle.demands.proofs.Left.{left_accepted, left_order, left_offers}
use Rattle.demands.proofs.Offers.{change_told}
use Rattle.demands.proofs.Order.{plays_left}
use Rattle.demands.proofs.Totals.{fresh_books}
use Rattle.demands.proofs.Unique.{orderly_one}

-- A log has all the calls that came.
pub logged_calls : (settings : Settings) (rows : List Row) (calls : List Call) → calls_of (logged settings rows calls) ≡ calls
unfolding log
logged_calls settings rows [] = refl
logged_calls settings rows (call ∷ calls) = ap (λ l. call ∷ l) (logged_calls settings (call_of settings rows call).rows calls)

-- It has all their answers.
pub logged_answers : (settings : Settings) (rows : List Row) (calls : List Call)
    → map (λ (e : Entry). e.out) (logged settings rows calls) ≡ log settings rows calls
unfolding log
logged_answers settings rows [] = refl
logged_answers settings rows (call ∷ calls) = ap (λ outs. (call_of settings rows call).out ∷ outs) (logged_answers settings (call_of settings rows call).rows calls)

fresh_settled : (n : ℕ) → map settled (fresh_book n) ≡ fresh_book n
fresh_settled zero = refl
fresh_settled (suc n) = ap (λ rows. fresh_row ∷ rows) (fresh_settled n)

module _ (settings : Settings) where
  told_up : (seen : Seen) (row : Row) (call : Call)
      → change_up (row_call settings seen row call).out ≡ sub_ℕ (row_up (row_call settings seen row call).row) (row_up row)
  told_up seen row call = ap (λ (c : Change). c.up) (change_told row seen settings call)

  told_down : (seen : Seen) (row : Row) (call : Call)
      → change_down (row_call settings seen row call).out ≡ sub_ℕ (row_down (row_call settings seen row call).row) (row_down row)
  told_down seen row call = ap (λ (c : Change). c.down) (change_told row seen settings call)

  -- What is booked and the change that a call reports make what is booked then, up and down.
  pub call_adds_up : (rows : List Row) (call : Call)
      → pos (booked_up_all rows) +ℤ change_up (call_of settings rows call).out ≡ pos (booked_up_all (call_of settings rows call).rows)
  call_adds_up = call_adds settings row_up change_up refl told_up

  pub call_adds_down : (rows : List Row) (call : Call)
      → pos (booked_down_all rows) +ℤ change_down (call_of settings rows call).out ≡ pos (booked_down_all (call_of settings rows call).rows)
  call_adds_down = call_adds settings row_down change_down refl told_down

module _ (settings : Settings) (limits : SettingsRange settings) (n : ℕ) (few : n ≤ 16) (calls : List Call) where
  fresh_in_range : RowsRange (fresh_book n)
  unfolding end
  fresh_in_range = fresh_ranges settings limits n few []

  played : (came settings n (calls_of (left settings n calls)) ≡ left settings n calls)
      × (end settings (fresh_book n) (calls_of (left settings n calls)) ≡ map settled (end settings (fresh_book n) calls))
      × Whole (left settings n calls)
  played =
      plays_left settings (book_laws settings limits) (fresh_book n) fresh_in_range (rw (length-replicate n fresh_row) few) (fresh_settled n) calls

  -- "Played that way, every call left gives the answer it gave, and the book ends the same but for the open offers."
  pub plays_serially : PlaysSerially settings n calls
  plays_serially = record { answers = played.0; book = played.1 }

  -- What is left is what remains of the log, each offer just before its answer and all else in its order.
  pub left_orderly : Orderly (came settings n calls) (left settings n calls)
  left_orderly =
      record {
        order = left_order (came settings n calls);
        offers = left_offers (came settings n calls);
        whole = played.2;
        accepted = left_accepted (came settings n calls);
      }

  -- No other list is that.
  pub left_only : (l : List Entry) → Orderly (came settings n calls) l → l ≡ left settings n calls
  left_only l p = orderly_one (came settings n calls) l (left settings n calls) p left_orderly

  -- "Each session then holds what demand 2 derives from its completed exchanges since its last close."
  pub holds_exchanges : (session : ℕ) → session < n → HoldsExchanges settings n calls session
  unfolding derived_from
  holds_exchanges session lt =
      record {
        as_came = holds;
        as_left = rw played.1 (get_or-map settled (end settings (fresh_book n) calls) session fresh_row ∙ ap settled holds);
      } where
        holds : get_or (end settings (fresh_book n) calls) session fresh_row ≡ row_of settings (past_of session (came settings n calls))
        holds = holds_past settings calls (fresh_book n) session (rw (length-replicate n fresh_row) lt) no_past (get_or-replicate n session fresh_row fresh_row lt)

  -- "The signed changes reported add up to the booked totals, exactly."
  pub changes_are_booked : ChangesAreBooked settings n calls
  changes_are_booked =
      record {
        up = changes_add settings row_up change_up refl (told_up settings) n fresh_row fresh_books.0 calls;
        down = changes_add settings row_down change_down refl (told_down settings) n fresh_row fresh_books.1 calls;
      }

  -- Demand 3.
  pub demand_3 : Demand3 settings n calls
  demand_3 = record { serially = plays_serially; holds = holds_exchanges; changes = changes_are_booked }
