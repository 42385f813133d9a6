-- The order of play: a book whose calls act on its rows by the laws of `RowLaws` plays what is left with the answers that were given. Assumes nothing.
use Prim.Native.Nat.{ℕ, zero, suc, ◌+◌, ◌≤◌, ◌<◌}
use native.Mathlib.Omega.{arith}
use native.Mathlib.Decide.{ℕ_discrete}
use mathlib.Core.Path.{◌≡◌, refl, sym, ◌∙◌, ap, ap₂, subst}
use mathlib.Core.Bool.{true, false}
use mathlib.Core.List.{List, [], ◌∷◌, map}
use mathlib.Core.Option.{Option, none, some}
use lib.Dec.{ltb}
use lib.ListN.{length, get_or, set, length-set, length-map, get_or-map}
use lib.Seq.{get_or-set_same, get_or-set_other, set-get_or, set-set, map-set_same}
use borrow.Author.Tests.{ltb-true, eq-eqb, ne_eqb}
use Rattle.flow.specs.declared.Settings.{Settings}
use Rattle.flow.proofs.Tests.{by_test}
use Rattle.book.specs.declared.Row.{Row}
use Rattle.book.specs.declared.Seen.{Seen}
use Rattle.book.specs.Calls.{fresh_row, settled}
use Rattle.book.specs.Look.{nothing_seen}
use Rattle.book.specs.Model.{Call, offers, answers, cancels, closes, asks, states, session_of, look, row_call, call_of, log, end}
use Rattle.book.specs.Left.{call_kind, Whole, nothing, exchange, single}
use Rattle.book.specs.Serial.{Entry, logged, calls_of, refused, Waiting, none_waits, now_waits, behind, placed, serial_from, serial}
use Rattle.book.specs.Totals.{sum_of, row_up, row_down, booked_up_all, booked_down_all}
use Rattle.demands.proofs.RowLaws.{Opens, Drops, Books, Frees, Reads, Does, RowLaws}
use Rattle.book.specs.Sound.{RowRange}
use Rattle.demands.proofs.RowRanges.{RowsRange, settled_range}
use Rattle.demands.proofs.Named.{acts, rows_in, out_in, rows_far, out_far, refused_number, accepted_number}
use Rattle.demands.proofs.Totals.{sum_set, look_finds}

-- Of its own session the offer named waits; of every other what waited.
now_same : (waiting : Waiting) (s : ℕ) (offer : Option Entry) → now_waits waiting s offer s ≡ offer
now_same waiting s offer = rw (eq-eqb s s refl)

now_other : (waiting : Waiting) (s t : ℕ) (offer : Option Entry) → (t ≡ s → ⊥) → now_waits waiting s offer t ≡ waiting t
now_other waiting s t offer ne = rw (ne_eqb t s ne)

-- To change a row and then all is to change all and then the row.
map_set : {A B : Type 0} (f : A → B) (l : List A) (i : ℕ) (a : A) → map f (set l i a) ≡ set (map f l) i (f a)
map_set f [] i a = refl
map_set f (x ∷ l) zero a = refl
map_set f (x ∷ l) (suc i) a = ap (λ m. f x ∷ m) (map_set f l i a)

-- a book without its open offers
abbrev clear : List Row → List Row
clear = map settled

clear_at : (rows : List Row) (s : ℕ) → get_or (clear rows) s fresh_row ≡ settled (get_or rows s fresh_row)
clear_at rows s = get_or-map settled rows s fresh_row

-- Without its open offer a row is still in its ranges.
clear_range : (rows : List Row) → RowsRange rows → RowsRange (clear rows)
clear_range rows r = record { each = λ j. rw (clear_at rows j) (settled_range (get_or rows j fresh_row).held (r.each j).held) }

-- Rows in their ranges, of which one is changed to one in its ranges, are in their ranges.
set_range : (rows : List Row) (s : ℕ) (row : Row) → s < length rows → RowsRange rows → RowRange row → RowsRange (set rows s row)
set_range rows s row lt r h = record { each = λ j. by j (ℕ_discrete j s) } where
  by : (j : ℕ) → Dec (j ≡ s) → RowRange (get_or (set rows s row) j fresh_row)
  by j (no e) = rw (get_or-set_other rows s j row fresh_row e) (r.each j)
  by j (yes e) = rw (e, get_or-set_same rows s row fresh_row lt) h

-- two books of which a look sees the same: all rows in their ranges, as many, and the same booked
record Alike (one other : List Row) : Type 0 where
  range : RowsRange one
  rows : length one ≡ length other
  up : booked_up_all one ≡ booked_up_all other
  down : booked_down_all one ≡ booked_down_all other

-- A look sees the same of both.
look_alike : (one other : List Row) → RowsRange other → length other ≤ 16 → Alike one other → look nothing_seen one ≡ look nothing_seen other
look_alike one other r few a = rw (look_finds one a.range (omega (arith, a.rows)), look_finds other r few, a.rows, a.up, a.down)

clear_sum : (f : Row → ℕ) → ((row : Row) → f (settled row) ≡ f row) → (rows : List Row) → sum_of f (clear rows) ≡ sum_of f rows
clear_sum f h [] = refl
clear_sum f h (row ∷ rows) = ap₂ ◌+◌ (h row) (clear_sum f h rows)

-- A look does not see the open offers.
clear_alike : (rows : List Row) → RowsRange rows → Alike (clear rows) rows
clear_alike rows r =
    record { range = clear_range rows r; rows = length-map rows settled; up = clear_sum row_up (λ row. refl) rows; down = clear_sum row_down (λ row. refl) rows }

-- So with the offer of one session open again.
reopened_alike : (rows : List Row) (s : ℕ) → s < length rows → RowsRange rows → Alike (set (clear rows) s (get_or rows s fresh_row)) rows
reopened_alike rows s lt r =
    record {
      range = set_range (clear rows) s (get_or rows s fresh_row) inside (clear_range rows r) (r.each s);
      rows = length-set (clear rows) s (get_or rows s fresh_row) ∙ length-map rows settled;
      up = same row_up (λ row. refl);
      down = same row_down (λ row. refl);
    } where
      inside : s < length (clear rows)
      inside = rw (length-map rows settled) lt

      same : (f : Row → ℕ) → ((row : Row) → f (settled row) ≡ f row) → sum_of f (set (clear rows) s (get_or rows s fresh_row)) ≡ sum_of f rows
      same f h =
          omega (
            arith,
            sum_set f (clear rows) s (get_or rows s fresh_row) inside,
            clear_sum f h rows,
            ap f (clear_at rows s) ∙ h (get_or rows s fresh_row),
          )

module _ (settings : Settings) where
  -- these calls, played on the book, give these answers and leave that book
  abbrev Plays : List Row → List Entry → List Row → Type 0
  Plays rows l ends = (logged settings rows (calls_of l) ≡ l) × (end settings rows (calls_of l) ≡ ends)

  -- and they are whole exchanges and single calls
  abbrev Leaves : List Row → List Entry → List Row → Type 0
  Leaves rows l ends = Plays rows l ends × Whole l

  -- One call, played at its row, before the others.
  plays_on : (rows next ends : List Row) (e : Entry) (l : List Entry) → session_of e.call < length rows → (acts settings rows e.call).out ≡ e.out
      → set rows (session_of e.call) (acts settings rows e.call).row ≡ next → Plays next l ends → Plays rows (e ∷ l) ends
  unfolding log end
  plays_on rows next ends e l lt out leaves (told, left) = (
    ap₂ (λ o rest. record { call = e.call; out = o } ∷ rest) (out_in settings rows e.call lt ∙ out) (ap (λ m. logged settings m (calls_of l)) then ∙ told),
    ap (λ m. end settings m (calls_of l)) then ∙ left,
  ) where
    then : (call_of settings rows e.call).rows ≡ next
    then = rows_in settings rows e.call lt ∙ leaves

  -- a session's row and the offer that waits: none, and the row has none open; or one that is open in the row, and that, played on the row
  -- without it, gives its answer and this row, whatever the book of n rows books
  abbrev Stands : ℕ → Option Entry → ℕ → Row → Type 0
  Stands n none s row = settled row ≡ row
  Stands n (some o) s row =
      (call_kind o.call ≡ 0) × (session_of o.call ≡ s) × (settled row ≡ row → ⊥)
      × ((seen : Seen) → seen.rows ≡ n → seen.sound ≡ 1 → row_call settings seen (settled row) o.call ≡ record { row = row; out = o.out })

  -- a book, and the offers that wait in it
  record Keeps (rows : List Row) (waiting : Waiting) : Type 0 where
    range : RowsRange rows
    few : length rows ≤ 16
    stands : (s : ℕ) → s < length rows → Stands (length rows) (waiting s) s (get_or rows s fresh_row)

  -- With one row changed, and what waits at it.
  keeps_set : (rows : List Row) (waiting now : Waiting) (s : ℕ) (row : Row) → s < length rows → Keeps rows waiting → RowRange row
      → ((t : ℕ) → (t ≡ s → ⊥) → now t ≡ waiting t) → Stands (length rows) (now s) s row → Keeps (set rows s row) now
  keeps_set rows waiting now s row lt k r others st =
      record {
        range = set_range rows s row lt k.range r;
        few = rw (length-set rows s row) k.few;
        stands = λ t h. by t (rw (length-set rows s row) at h) (ℕ_discrete t s);
      } where
        by : (t : ℕ) → t < length rows → Dec (t ≡ s) → Stands (length (set rows s row)) (now t) t (get_or (set rows s row) t fresh_row)
        by t h (yes e) = rw (length-set rows s row, e, get_or-set_same rows s row fresh_row lt) st
        by t h (no e) = rw (length-set rows s row, others t e, get_or-set_other rows s t row fresh_row e) (k.stands t h)

  -- what is played of the calls after this one
  abbrev Later : List Row → Call → (Waiting → List Entry) → List Row → Type 0
  Later rows call rest ends = (w : Waiting) → Keeps (call_of settings rows call).rows w → Leaves (clear (call_of settings rows call).rows) (rest w) ends

  module _ (laws : RowLaws settings) (rows : List Row) (call : Call) (waiting : Waiting) (keeps : Keeps rows waiting) (rest : Waiting → List Entry) (ends : List Row)
      (later : Later rows call rest ends) where
    abbrev entry : Entry
    entry = record { call = call; out = (call_of settings rows call).out }

    -- Where the book stays, only the others are played.
    stayed : (call_of settings rows call).rows ≡ rows → Leaves (clear rows) (rest waiting) ends
    stayed e = subst (λ m. Keeps m waiting → Leaves (clear m) (rest waiting) ends) e (later waiting) keeps

    module _ (lt : session_of call < length rows) where
      abbrev s : ℕ
      s = session_of call

      abbrev row : Row
      row = get_or rows (session_of call) fresh_row

      abbrev seen : Seen
      seen = look nothing_seen rows

      abbrev now : Row
      now = (acts settings rows call).row

      inside : session_of call < length (clear rows)
      inside = rw (length-map rows settled) lt

      seen_is : (seen.rows ≡ length rows) × (seen.sound ≡ 1)
      seen_is = rw (look_finds rows keeps.range keeps.few) (refl, refl)

      looks : look nothing_seen (clear rows) ≡ look nothing_seen rows
      looks = look_alike (clear rows) rows keeps.range keeps.few (clear_alike rows keeps.range)

      -- The others are played after the call, this being what waits then.
      then : (w : Waiting) → ((t : ℕ) → (t ≡ s → ⊥) → w t ≡ waiting t) → Stands (length rows) (w s) s now → Leaves (clear (set rows s now)) (rest w) ends
      then w others st =
          (rw (rows_in settings rows call lt) at later) w (keeps_set rows waiting w s now lt keeps (laws.range seen row call (keeps.range.each s)) others st)

      then_waits : (offer : Option Entry) → Stands (length rows) offer s now → Leaves (clear (set rows s now)) (rest (now_waits waiting s offer)) ends
      then_waits offer st = then (now_waits waiting s offer) (λ t. now_other waiting s t offer) (rw (now_same waiting s offer) st)

      -- The call is played on a book that looks alike, has its row as it was, and has none of the other open offers.
      plays_here : (m : List Row) (l : List Entry) → Alike m rows → get_or m s fresh_row ≡ row → set m s now ≡ set (clear rows) s now → settled now ≡ now
          → Plays (clear (set rows s now)) l ends → Plays m (entry ∷ l) ends
      plays_here m l a g q to = plays_on m (clear (set rows s now)) ends entry l (rw a.rows lt) (rw same (sym (out_in settings rows call lt))) (rw same lands) where
        same : acts settings m call ≡ acts settings rows call
        same = rw (look_alike m rows keeps.range keeps.few a, g)

        lands : set m s now ≡ clear (set rows s now)
        lands = q ∙ ap (set (clear rows) s) (sym to) ∙ sym (map_set settled rows s now)

      -- An accepted offer waits.
      one_opens : call_kind call ≡ 0 → Opens settings seen row call → Leaves (clear rows) (rest (now_waits waiting s (some entry))) ends
      one_opens k o = rw (map-set_same settled rows s now fresh_row (o.to ∙ sym o.from)) at (then_waits (some entry) stands) where
        stands : Stands (length rows) (some entry) s now
        stands = (k, refl, o.opened, λ v p q. rw (o.to, out_in settings rows call lt) (o.blind v (p ∙ sym seen_is.0) (q ∙ sym seen_is.1)))

      -- With a cancellation nothing waits.
      one_drops : Drops settings seen row call → Leaves (clear rows) (rest (now_waits waiting s none)) ends
      one_drops d = rw (map-set_same settled rows s now fresh_row (ap settled d.to)) at (then_waits none (rw d.to))

      -- A call that reads is played on the row without its open offer.
      one_reads : call_kind call ≡ 3 → Reads settings seen row call → Leaves (clear rows) (entry ∷ rest waiting) ends
      one_reads k r = (
        plays_on (clear rows) (clear rows) ends entry (rest waiting) inside (rw does (sym (out_in settings rows call lt)))
            (rw (does, ← clear_at rows s) (set-get_or (clear rows) s fresh_row)) others.0,
        single entry (rest waiting) k others.1,
      ) where
        others : Leaves (clear rows) (rest waiting) ends
        others = stayed (rows_in settings rows call lt ∙ ap (set rows s) r.same ∙ set-get_or rows s fresh_row)

        does : acts settings (clear rows) call ≡ record { row = settled row; out = (acts settings rows call).out }
        does = rw (looks, clear_at rows s) r.unseen

      -- A close finds no offer open.
      one_frees : call_kind call ≡ 3 → Frees settings seen row call → Leaves (clear rows) (entry ∷ rest waiting) ends
      one_frees k f = by (waiting s) refl (keeps.stands s lt) where
        by : (o : Option Entry) → waiting s ≡ o → Stands (length rows) o s row → Leaves (clear rows) (entry ∷ rest waiting) ends
        by none e st =
            let others = then waiting (λ t h. refl) (rw e f.to) in (
              plays_here (clear rows) (rest waiting) (clear_alike rows keeps.range) (clear_at rows s ∙ st) refl f.to others.0,
              single entry (rest waiting) k others.1,
            )
        by (some o) e st = absurd (st.2 f.from)

      -- An answer is played just behind the offer that waits.
      one_books : call_kind call ≡ 1 → Books settings seen row call → Leaves (clear rows) (behind (waiting s) (entry ∷ rest (now_waits waiting s none))) ends
      one_books k b = by (waiting s) (keeps.stands s lt) where
        others : Leaves (clear (set rows s now)) (rest (now_waits waiting s none)) ends
        others = then_waits none b.to

        by : (o : Option Entry) → Stands (length rows) o s row → Leaves (clear rows) (behind o (entry ∷ rest (now_waits waiting s none))) ends
        by none st = absurd (b.from st)
        by (some o) (offer, at, opened, plays) = (
          plays_on (clear rows) (set (clear rows) s row) ends o (entry ∷ rest (now_waits waiting s none)) (rw at inside) (rw does) (rw (does, at))
              (plays_here (set (clear rows) s row) (rest (now_waits waiting s none)) (reopened_alike rows s lt keeps.range)
              (get_or-set_same (clear rows) s row fresh_row inside) (set-set (clear rows) s row now) b.to others.0),
          exchange o entry (rest (now_waits waiting s none)) offer k at others.1,
        ) where
          does : acts settings (clear rows) o.call ≡ record { row = row; out = o.out }
          does = rw (at, looks, clear_at rows s) (plays seen seen_is.0 seen_is.1)

      one_refused : refused (call_of settings rows call).out ≡ true → Leaves (clear rows) (rest waiting) ends
      one_refused e =
          let h = refused_number (acts settings rows call).out (rw (out_in settings rows call lt) at e) in
          stayed (rows_in settings rows call lt ∙ ap (set rows s) (laws.refuses seen row call h) ∙ set-get_or rows s fresh_row)

      one_does : refused (call_of settings rows call).out ≡ false → Does settings seen row call
      one_does e = laws.accepts seen row call (keeps.range.each s) (accepted_number (acts settings rows call).out (rw (out_in settings rows call lt) at e))

  module _ (laws : RowLaws settings) where
    one_accepted : (rows : List Row) (call : Call) (waiting : Waiting) (keeps : Keeps rows waiting) (rest : Waiting → List Entry) (ends : List Row) (later : Later rows call rest ends)
        → session_of call < length rows → Does settings (look nothing_seen rows) (get_or rows (session_of call) fresh_row) call
        → Leaves (clear rows) (placed false call (record { call = call; out = (call_of settings rows call).out }) waiting rest) ends
    unfolding session_of
    one_accepted rows (offers session origin text) waiting keeps rest ends later lt = one_opens laws rows (offers session origin text) waiting keeps rest ends later lt refl
    one_accepted rows (answers session text) waiting keeps rest ends later lt = one_books laws rows (answers session text) waiting keeps rest ends later lt refl
    one_accepted rows (cancels session) waiting keeps rest ends later lt = one_drops laws rows (cancels session) waiting keeps rest ends later lt
    one_accepted rows (closes session) waiting keeps rest ends later lt = one_frees laws rows (closes session) waiting keeps rest ends later lt refl
    one_accepted rows (asks session bearer) waiting keeps rest ends later lt = one_reads laws rows (asks session bearer) waiting keeps rest ends later lt refl
    one_accepted rows (states session room) waiting keeps rest ends later lt = one_reads laws rows (states session room) waiting keeps rest ends later lt refl

    -- What is left of one call and of those after it is played on the book without its open offers.
    one : (rows : List Row) (call : Call) (waiting : Waiting) (keeps : Keeps rows waiting) (rest : Waiting → List Entry) (ends : List Row) → Later rows call rest ends
        → Leaves (clear rows) (placed (refused (call_of settings rows call).out) call (record { call = call; out = (call_of settings rows call).out }) waiting rest) ends
    one rows call waiting keeps rest ends later =
        by_test (ltb (session_of call) (length rows))
        (λ t.
        let lt = ltb-true (session_of call) (length rows) t in
        by_test (refused (call_of settings rows call).out) (λ e. rw e (one_refused laws rows call waiting keeps rest ends later lt e))
        (λ e. rw e (one_accepted rows call waiting keeps rest ends later lt (one_does laws rows call waiting keeps rest ends later lt e))))
        (λ t. rw (out_far settings rows call t) (stayed laws rows call waiting keeps rest ends later (rows_far settings rows call t)))

    -- So is what is left of all calls.
    all : (calls : List Call) (rows : List Row) (waiting : Waiting) → Keeps rows waiting
        → Leaves (clear rows) (serial_from waiting (logged settings rows calls)) (clear (end settings rows calls))
    unfolding serial_from log end
    all [] rows waiting keeps = ((refl, refl), nothing)
    all (call ∷ calls) rows waiting keeps =
        let next = (call_of settings rows call).rows in
        one rows call waiting keeps (λ w. serial_from w (logged settings next calls)) (clear (end settings next calls)) (λ w k. all calls next w k)

    -- From at most 16 rows in their ranges with no open offer: what is left of the calls, played, gives the answers that were given and ends in
    -- the same book but for the open offers, and it is whole exchanges and single calls.
    pub plays_left : (rows : List Row) → RowsRange rows → length rows ≤ 16 → map settled rows ≡ rows → (calls : List Call)
        → (logged settings rows (calls_of (serial (logged settings rows calls))) ≡ serial (logged settings rows calls))
        × (end settings rows (calls_of (serial (logged settings rows calls))) ≡ map settled (end settings rows calls))
        × Whole (serial (logged settings rows calls))
    unfolding serial
    plays_left rows r few closed calls = (played.0.0, played.0.1, played.1) where
      keeps : Keeps rows none_waits
      keeps = record { range = r; few = few; stands = λ s h. sym (clear_at rows s) ∙ ap (λ m. get_or m s fresh_row) closed }

      played : Leaves rows (serial_from none_waits (logged settings rows calls)) (clear (end settings rows calls))
      played = subst (λ m. Leaves m (serial_from none_waits (logged settings rows calls)) (clear (end settings rows calls))) closed (all calls rows none_waits keeps)
