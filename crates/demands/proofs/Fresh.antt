-- From a fresh book on: after any calls all rows lie in their ranges, no call was answered with 19, and what is booked lies within the pool. Assumes nothing.
use Prim.Native.Nat.{ℕ, zero, suc, ◌+◌, ◌-◌, ◌≤◌, ◌<◌}
use native.Mathlib.Omega.{arith}
use mathlib.Core.Path.{◌≡◌, refl, subst}
use mathlib.Core.Logic.{◌⊎◌, inl, inr}
use mathlib.Core.List.{List, [], ◌∷◌}
use mathlib.Core.Bool.{false≢true}
use lib.Dec.{ltb}
use lib.ListN.{length, get_or, set, replicate, length-replicate}
use borrow.Author.Tests.{ltb-true, ltb-false}
use Rattle.sdp.specs.Text.{read_text}
use Rattle.flow.specs.declared.Settings.{Settings}
use Rattle.flow.specs.Range.{SettingsRange}
use Rattle.flow.proofs.Tests.{by_test, neither_left, neither_right}
use Rattle.book.specs.declared.Row.{Row}
use Rattle.book.specs.declared.Seen.{Seen}
use Rattle.book.specs.Booking.{rates_of, above}
use Rattle.book.specs.Calls.{fresh_row, accepted_reply, offer_step, derives, answer_step, cancel_step, close_step}
use Rattle.book.specs.Look.{nothing_seen}
use Rattle.book.specs.Model.{Call, offers, answers, cancels, closes, asks, states, session_of, Out, look, row_call, call_of, log, end}
use Rattle.demands.proofs.Passed.{answer_accepted, close_accepted}
use Rattle.book.proofs.Ranged.{range_rates}
use Rattle.demands.proofs.RowRanges.{all_same, fresh_range, RowsRange, call_range}
use Rattle.demands.proofs.Offers.{offer_holds, cancel_holds}
use Rattle.demands.proofs.Refusals.{after_step, answer_step_lem, close_step_lem, unsound_known, rows_stay}
use Rattle.demands.proofs.Totals.{sum_of, row_up, row_down, booked_up_all, booked_down_all, sum_set, sum_none, fresh_books, look_finds}

-- in one direction: a row books no more than before, or the total with it lies within the pool
abbrev Room : ℕ → ℕ → ℕ → ℕ → Type 0
Room pool total old new = (new ≤ old) ⊎ (total - old + new ≤ pool)

-- Where one row leaves room, the sum stays within the pool.
sum_within : (f : Row → ℕ) (pool : ℕ) (rows : List Row) (j : ℕ) (row : Row) → j < length rows → sum_of f rows ≤ pool
    → Room pool (sum_of f rows) (f (get_or rows j fresh_row)) (f row) → sum_of f (set rows j row) ≤ pool
sum_within f pool rows j row h k (inl e) = omega (arith, sum_set f rows j row h)
sum_within f pool rows j row h k (inr e) = omega (arith, sum_set f rows j row h)

-- in both directions, of a row as it was and as it is, by the totals that a look saw
abbrev Pooled : Settings → Seen → Row → Row → Type 0
Pooled settings seen row now =
    Room settings.pool.up seen.booked.up.0 (row_up row) (row_up now) × Room settings.pool.down seen.booked.down.0 (row_down row) (row_down now)

module _ (settings : Settings) (seen : Seen) (row : Row) where
  -- Where it holds the same, it books the same.
  holds_pooled : (now : Row) → now.held ≡ row.held → Pooled settings seen row now
  holds_pooled now e = (inl (rw e (omega arith)), inl (rw e (omega arith)))

  answer_pooled : (text : List ℕ) → Pooled settings seen row (answer_step row seen settings text).row
  unfolding above
  answer_pooled text =
      after_step row seen (Pooled settings seen row) (answer_step row seen settings text) (answer_step_lem row seen settings text) (holds_pooled row refl)
      (λ h.
      let a = answer_accepted row seen settings text h in
      let up = seen.booked.up.0 - row_up row + (rates_of (derives settings row (read_text text))).up.0 in
      let down = seen.booked.down.0 - row_down row + (rates_of (derives settings row (read_text text))).down.0 in
      rw a.leaves (
        inr (ltb-false settings.pool.up up (neither_left (ltb settings.pool.up up) (ltb settings.pool.down down) a.within)),
        inr (ltb-false settings.pool.down down (neither_right (ltb settings.pool.up up) (ltb settings.pool.down down) a.within)),
      ))

  close_pooled : Pooled settings seen row (close_step row seen).row
  close_pooled =
      after_step row seen (Pooled settings seen row) (close_step row seen) (close_step_lem row seen) (holds_pooled row refl)
      (λ h. rw (close_accepted row seen h).leaves (inl (omega (arith, fresh_books.0)), inl (omega (arith, fresh_books.1))))

  row_pooled : (call : Call) → Pooled settings seen row (row_call settings seen row call).row
  unfolding row_call
  row_pooled (offers session origin text) = holds_pooled (offer_step row seen origin text).row (offer_holds row seen origin text)
  row_pooled (answers session text) = answer_pooled text
  row_pooled (cancels session) = holds_pooled (cancel_step row seen).row (cancel_holds row seen)
  row_pooled (closes session) = close_pooled
  row_pooled (asks session bearer) = holds_pooled row refl
  row_pooled (states session room) = holds_pooled row refl

-- a book that has at most 16 rows, all in their ranges, and books within the pool
pub record Standing (settings : Settings) (rows : List Row) : Type 0 where
  pub range : RowsRange rows
  pub few : length rows ≤ 16
  pub up : booked_up_all rows ≤ settings.pool.up
  pub down : booked_down_all rows ≤ settings.pool.down

-- the answer of no call
abbrev pub no_out : Out
no_out = record { reply = accepted_reply; bytes = [] }

module _ (settings : Settings) (limits : SettingsRange settings) where
  module _ (rows : List Row) (s : Standing settings rows) (call : Call) where
    -- The rows after a call book within the pool.
    pooled : (booked_up_all (call_of settings rows call).rows ≤ settings.pool.up) × (booked_down_all (call_of settings rows call).rows ≤ settings.pool.down)
    unfolding call_of
    pooled =
        by_test (ltb (session_of call) (length rows))
        (λ e.
        let h = ltb-true (session_of call) (length rows) e in
        let row = get_or rows (session_of call) fresh_row in
        let now = (row_call settings (look nothing_seen rows) row call).row in
        let k = subst (λ seen. Pooled settings seen row now) (look_finds rows s.range s.few) (row_pooled settings (look nothing_seen rows) row call) in
        rw e (
          sum_within row_up settings.pool.up rows (session_of call) now h s.up k.0,
          sum_within row_down settings.pool.down rows (session_of call) now h s.down k.1,
        ))
        (λ e. rw e (s.up, s.down))

    -- A call leaves such a book such a book.
    pub call_stands : Standing settings (call_of settings rows call).rows
    call_stands =
        record {
          range = call_range settings rows call limits s.range;
          few = rw (rows_stay settings rows call) s.few;
          up = pooled.0;
          down = pooled.1;
        }

    -- No call on such a book is answered with 19.
    pub never_unsound : (call_of settings rows call).out.reply.refusal ≡ 19 → ⊥
    never_unsound e =
        false≢true
        (rw (look_finds rows s.range s.few, range_rates (get_or rows (session_of call) fresh_row) (s.range.each (session_of call)))
        at (unsound_known settings rows call e))

  -- Calls one after the other leave such a book such a book.
  pub end_stands : (rows : List Row) (calls : List Call) → Standing settings rows → Standing settings (end settings rows calls)
  unfolding end
  end_stands rows [] s = s
  end_stands rows (call ∷ calls) s = end_stands (call_of settings rows call).rows calls (call_stands rows s call)

  -- None of them is answered with 19.
  pub log_sound : (rows : List Row) (calls : List Call) → Standing settings rows → (i : ℕ) → (get_or (log settings rows calls) i no_out).reply.refusal ≡ 19 → ⊥
  unfolding log
  log_sound rows [] s i e = omega (arith, e)
  log_sound rows (call ∷ calls) s zero e = never_unsound rows s call e
  log_sound rows (call ∷ calls) s (suc i) e = log_sound (call_of settings rows call).rows calls (call_stands rows s call) i e

  module _ (n : ℕ) (few : n ≤ 16) where
    -- A book of at most 16 fresh rows is one.
    pub fresh_stands : Standing settings (replicate n fresh_row)
    fresh_stands =
        record {
          range = record { each = λ j. rw (all_same n j fresh_row) fresh_range };
          few = rw (length-replicate n fresh_row) few;
          up = omega (arith, sum_none row_up n fresh_row fresh_books.0);
          down = omega (arith, sum_none row_down n fresh_row fresh_books.1);
        }

    module _ (calls : List Call) where
      -- After any calls on a fresh book all rows lie in their ranges.
      pub fresh_ranges : RowsRange (end settings (replicate n fresh_row) calls)
      fresh_ranges = (end_stands (replicate n fresh_row) calls fresh_stands).range

      -- No call on it was answered with 19.
      pub fresh_sound : (i : ℕ) → (get_or (log settings (replicate n fresh_row) calls) i no_out).reply.refusal ≡ 19 → ⊥
      fresh_sound = log_sound (replicate n fresh_row) calls fresh_stands

      -- What is booked then lies within the pool, up and down.
      pub fresh_pooled : (booked_up_all (end settings (replicate n fresh_row) calls) ≤ settings.pool.up)
          × (booked_down_all (end settings (replicate n fresh_row) calls) ≤ settings.pool.down)
      fresh_pooled =
          let s = end_stands (replicate n fresh_row) calls fresh_stands in
          (s.up, s.down)
