-- The loop over the calls: whatever puts what is left to print puts the whole. Assumes nothing.
use Rattle.std.specs.Prelude.{Option, Some, None}
use Rattle.cursor.specs.declared.Cursor.{Cursor}
use Prim.Native.Nat.{ℕ, zero, suc, ◌+◌, ◌-◌, ◌<◌, ◌≤◌}
use native.Mathlib.Omega.{arith}
use native.Mathlib.Numerals.{add-one}
use mathlib.Core.Path.{◌≡◌, refl, sym, ◌∙◌, ap, subst}
use mathlib.Core.List.{List, [], ◌∷◌, ◌++◌}
use lib.IntN.{ℤ, pos, nat_abs, ◌+ℤ◌}
use lib.ListN.{length, get_or, set, replicate, length-set}
use mir.Syntax.{w64}
use mir.Val.{SFits, to_z, of_z}
use mir.ValLaws.{to_z-of_z}
use Rattle.cursor.specs.Bytes.{bytes}
use Rattle.put.specs.declared.Buffer.{Buffer}
use Rattle.put.specs.Put.{Takes}
use Rattle.put.specs.Number.{signed}
use Rattle.put.proofs.Taking.{take_then}
use Rattle.flow.specs.declared.Settings.{Settings}
use Rattle.flow.specs.Range.{SettingsRange}
use Rattle.book.specs.declared.Change.{Change}
use Rattle.book.specs.declared.Reply.{Reply}
use Rattle.book.specs.declared.Row.{Row}
use Rattle.book.specs.declared.Seen.{Seen}
use Rattle.book.specs.declared.Stepped.{Stepped}
use Rattle.book.specs.Calls.{fresh_row, refused_with}
use Rattle.book.specs.Model.{Call, row_call, Called, call_of}
use Rattle.book.specs.Demand3.{fresh_book}
use Rattle.book.specs.Totals.{row_up, row_down, booked_up_all, booked_down_all}
use Rattle.demands.proofs.Demand3.{call_adds_up, call_adds_down}
use Rattle.demands.proofs.Fresh.{Standing, call_stands, fresh_stands}
use Rattle.demands.proofs.Totals.{sum_none, fresh_books}
use Rattle.frame.specs.declared.Span.{Span}
use Rattle.callfile.specs.declared.ask.Ask.{Ask}
use Rattle.callfile.specs.Ask.{letter, session, span_of, ask_at, asks_from}
use Rattle.evening.specs.Playing.{spanned, call_with, call_as, ended, answer_line, booked_line, answered}
use Rattle.player.specs.Steps.{step_of, sixteen, no_totals, added_to}
use Rattle.player.proofs.Calls.{answered_more, answered_none, far_rows, far_reply, near_rows, near_reply}

-- The next call of the file, and that there is none.
module _ (s : List ℕ) (texts at : ℕ) where
  none_left : (n : ℕ) → ask_at s at texts ≡ None → asks_from n s texts at ≡ []
  unfolding asks_from
  none_left zero e = refl
  none_left (suc n) e = rw e

  some_left : (n : ℕ) (ask : Ask) (p : Cursor) → ask_at s at texts ≡ Some (ask, p) → asks_from (suc n) s texts at ≡ ask ∷ asks_from n s texts p.at
  unfolding asks_from
  some_left n ask p e = rw e

  over : (n : ℕ) → n ≡ 0 → asks_from n s texts at ≡ []
  unfolding asks_from
  over n e = rw e

-- Within a list the value past its end does not matter.
any_default : {A : Type 0} (l : List A) (k : ℕ) (d e : A) → k < length l → get_or l k d ≡ get_or l k e
any_default [] k d e h = absurd (omega (arith, h))
any_default (a ∷ l) zero d e h = refl
any_default (a ∷ l) (suc k) d e h = any_default l k d e (omega (arith, h))

-- these rows, this answer and these totals are what a call leaves
pub record Played (settings : Settings) (rows : List Row) (call : Call) (rows' : List Row) (reply : Reply) (totals' : Change) : Type 0 where
  pub rows_are : (call_of settings rows call).rows ≡ rows'
  pub reply_is : (call_of settings rows call).out.reply ≡ reply
  pub full : length rows' ≡ 16
  pub up_is : totals'.up ≡ pos (booked_up_all rows')
  pub down_is : totals'.down ≡ pos (booked_down_all rows')

-- as it is read back from a local
abbrev bits : ℤ → ℤ
bits z = to_z w64 (of_z w64 z)

module _ (settings : Settings) (s : List ℕ) (spans : List Span) (k texts : ℕ) (b : Buffer) (from : ℕ) where
  -- the calls from the i-th on are still to be played, on these rows, which book what is added up; they stand from `at` on, and their answers go into c
  pub record Turn (c : Buffer) (rows : List Row) (totals : Change) (at i : ℕ) : Type 0 where
    pub limits : SettingsRange settings
    pub small : (settings.pool.up ≤ 4294967295) × (settings.pool.down ≤ 4294967295)
    pub within : i ≤ k
    pub stands : Standing settings rows
    pub full : length rows ≡ 16
    pub up_is : totals.up ≡ pos (booked_up_all rows)
    pub down_is : totals.down ≡ pos (booked_down_all rows)
    pub rest : (d : Buffer) → Takes c (answered settings rows (suc i) s spans (asks_from (k - i) s texts at)) d
        → Takes b (answered settings (fresh_book 16) 1 s spans (asks_from k s texts from)) d

  begins : SettingsRange settings → (settings.pool.up ≤ 4294967295) × (settings.pool.down ≤ 4294967295) → Turn b (fresh_book 16) no_totals from 0
  begins limits small =
      let e : k - 0 ≡ k = omega arith in
      let stands = fresh_stands settings limits 16 (omega arith) in
      record {
        limits = limits;
        small = small;
        within = omega arith;
        stands = stands;
        full = refl;
        up_is = ap pos (sym (sum_none row_up 16 fresh_row fresh_books.0));
        down_is = ap pos (sym (sum_none row_down 16 fresh_row fresh_books.1));
        rest = λ d q. rw e at q;
      }

  pub turn_begin : SettingsRange settings → (settings.pool.up ≤ 4294967295) × (settings.pool.down ≤ 4294967295)
      → (row : Row) → row ≡ fresh_row → (totals : Change) → totals ≡ no_totals → Turn b (replicate 16 row) totals from 0
  turn_begin limits small row e totals z = rw (e, z) (begins limits small)

  module _ {c : Buffer} {rows : List Row} {totals : Change} {at i : ℕ} (g : Turn c rows totals at i) where
    -- the totals are small, so that they are read back as they are
    up_back : bits totals.up ≡ pos (booked_up_all rows)
    up_back = ap bits g.up_is ∙ to_z-of_z w64 (pos (booked_up_all rows)) (record { sfits = omega (arith, g.stands.up, g.small.0) })

    down_back : bits totals.down ≡ pos (booked_down_all rows)
    down_back = ap bits g.down_is ∙ to_z-of_z w64 (pos (booked_down_all rows)) (record { sfits = omega (arith, g.stands.down, g.small.1) })

    -- the last line
    booked_is : bytes "booked" ++ ended (signed (bits totals.up) ∷ signed (bits totals.down) ∷ []) ≡ booked_line rows
    unfolding booked_line signed
    booked_is = rw (up_back, down_back)

    -- After the last call, or at a line that is none, what is booked ends the output.
    ends : asks_from (k - i) s texts at ≡ [] → {d : Buffer} → Takes c (bytes "booked" ++ ended (signed (bits totals.up) ∷ signed (bits totals.down) ∷ [])) d
        → Takes b (answered settings (fresh_book 16) 1 s spans (asks_from k s texts from)) d
    ends e {d} q =
        g.rest d
        (subst (λ (w : List ℕ). Takes c w d)
        (booked_is ∙ sym (answered_none settings s spans rows (suc i)) ∙ ap (answered settings rows (suc i) s spans) (sym e))
        q)

    pub turn_over : k ≤ i → {d : Buffer} → Takes c (bytes "booked" ++ ended (signed (bits totals.up) ∷ signed (bits totals.down) ∷ [])) d
        → Takes b (answered settings (fresh_book 16) 1 s spans (asks_from k s texts from)) d
    turn_over h = ends (over s texts at (k - i) (omega arith))

    pub turn_bad : (m : Option (Ask × Cursor)) → m ≡ ask_at s at texts → m ≡ None → {d : Buffer}
        → Takes c (bytes "booked" ++ ended (signed (bits totals.up) ∷ signed (bits totals.down) ∷ [])) d
        → Takes b (answered settings (fresh_book 16) 1 s spans (asks_from k s texts from)) d
    turn_bad m a e = ends (none_left s texts at (k - i) (sym a ∙ e))

    -- A step that is taken by the totals, the row and the span that were looked up.
    pub steps_from : (d : Row) (ask : Ask) (seen : Seen) (span : Span) (text : List ℕ) (step : Stepped) → session ask < 16
        → step ≡ step_of (row_call settings seen (get_or rows (session ask) d) (call_with text ask))
        → seen ≡ sixteen (nat_abs totals.up) (nat_abs totals.down) → text ≡ spanned s span → span ≡ span_of spans ask
        → step ≡ step_of (row_call settings (sixteen (booked_up_all rows) (booked_down_all rows)) (get_or rows (session ask) fresh_row) (call_with (spanned s (span_of spans ask)) ask))
    steps_from d ask seen span text step near a b t f =
        rw (← f, ← t, ← seen_is, any_default rows (session ask) fresh_row d (omega (arith, near, g.full))) a where
          seen_is : seen ≡ sixteen (booked_up_all rows) (booked_down_all rows)
          seen_is =
              b
              ∙ ap (λ (m : ℤ). sixteen (nat_abs m) (nat_abs totals.down)) g.up_is
              ∙ ap (λ (m : ℤ). sixteen (booked_up_all rows) (nat_abs m)) g.down_is

    -- A call at a session that the book does not have.
    pub far_played : (ask : Ask) → 16 ≤ session ask → (r : Reply) → r ≡ refused_with 10 0 → (rows' : List Row) (reply : Reply) (totals' : Change)
        → rows' ≡ rows → reply ≡ r → totals' ≡ totals → Played settings rows (call_as s spans ask) rows' reply totals'
    far_played ask h r z rows' reply totals' u v w =
        rw (u, v, w) (
        record {
          rows_are = far_rows settings s spans rows g.full ask h;
          reply_is = far_reply settings s spans rows g.full ask h ∙ sym z;
          full = g.full;
          up_is = g.up_is;
          down_is = g.down_is;
        }
        )

    module _ (m : Option (Ask × Cursor)) (ask : Ask) (next : Cursor) (a : m ≡ ask_at s at texts) (call : m ≡ Some (ask, next)) (lt : i < k) where
      abbrev called : Called
      called = call_of settings rows (call_as s spans ask)

      -- the answer to this call, and what is left after it
      left_is : answered settings rows (suc i) s spans (asks_from (k - i) s texts at)
          ≡ answer_line (i + 1) (letter ask) called.out.reply
          ++ answered settings called.rows (suc (i + 1)) s spans (asks_from (k - (i + 1)) s texts next.at)
      left_is =
          let q : k - i ≡ suc (k - (i + 1)) = omega (arith, lt) in
          let e = some_left s texts at (k - (i + 1)) ask next (sym a ∙ call) in
          rw (q, e, ← add-one i) (answered_more settings s spans rows (i + 1) ask (asks_from (k - (i + 1)) s texts next.at))

      -- The turn is made where the answer to the call is put, and the rows and totals are those that it leaves.
      pub turn_made : (rows' : List Row) (reply : Reply) (totals' : Change) → Played settings rows (call_as s spans ask) rows' reply totals' → {d : Buffer}
          → Takes c (answer_line (i + 1) (letter ask) reply) d → Turn d rows' totals' next.at (i + 1)
      turn_made rows' reply totals' h w =
          record {
            limits = g.limits;
            small = g.small;
            within = omega (arith, lt);
            stands = subst (Standing settings) h.rows_are (call_stands settings g.limits rows g.stands (call_as s spans ask));
            full = h.full;
            up_is = h.up_is;
            down_is = h.down_is;
            rest = λ e t. g.rest e (rw (left_is, h.rows_are, h.reply_is) (take_then w t));
          }

    -- A call at one of the book's sessions.
    module _ (ask : Ask) (near : session ask < 16) (step : Stepped)
        (steps : step ≡ step_of (row_call settings (sixteen (booked_up_all rows) (booked_down_all rows)) (get_or rows (session ask) fresh_row) (call_with (spanned s (span_of spans ask)) ask))) where
      abbrev calling : Called
      calling = call_of settings rows (call_as s spans ask)

      rows_then : calling.rows ≡ set rows (session ask) step.row
      rows_then = near_rows settings s spans rows g.full ask g.stands near ∙ ap (λ (m : Stepped). set rows (session ask) m.row) (sym steps)

      reply_then : calling.out.reply ≡ step.reply
      reply_then = near_reply settings s spans rows g.full ask g.stands near ∙ ap (λ (m : Stepped). m.reply) (sym steps)

      sum_up : totals.up +ℤ step.reply.change.up ≡ pos (booked_up_all calling.rows)
      sum_up =
          ap (λ (m : ℤ). m +ℤ step.reply.change.up) g.up_is
          ∙ ap (λ (m : Reply). pos (booked_up_all rows) +ℤ m.change.up) (sym reply_then)
          ∙ call_adds_up settings rows (call_as s spans ask)

      sum_down : totals.down +ℤ step.reply.change.down ≡ pos (booked_down_all calling.rows)
      sum_down =
          ap (λ (m : ℤ). m +ℤ step.reply.change.down) g.down_is
          ∙ ap (λ (m : Reply). pos (booked_down_all rows) +ℤ m.change.down) (sym reply_then)
          ∙ call_adds_down settings rows (call_as s spans ask)

      stands_then : Standing settings calling.rows
      stands_then = call_stands settings g.limits rows g.stands (call_as s spans ask)

      -- The sums fit 64 bits with a sign.
      pub sums_fit : SFits w64 (totals.up +ℤ step.reply.change.up) × SFits w64 (totals.down +ℤ step.reply.change.down)
      sums_fit = (
        rw sum_up (record { sfits = omega (arith, stands_then.up, g.small.0) }),
        rw sum_down (record { sfits = omega (arith, stands_then.down, g.small.1) }),
      )

      pub near_played : (sums : Change) → sums ≡ added_to totals step.reply.change → (rows' : List Row) (reply : Reply) (totals' : Change)
          → rows' ≡ set rows (session ask) step.row → reply ≡ step.reply → totals' ≡ sums → Played settings rows (call_as s spans ask) rows' reply totals'
      near_played sums z rows' reply totals' u v w =
          rw (u, v, w) (
          record {
            rows_are = rows_then;
            reply_is = reply_then;
            full = length-set rows (session ask) step.row ∙ g.full;
            up_is = ap (λ (m : Change). m.up) z ∙ sum_up ∙ ap (λ (m : List Row). pos (booked_up_all m)) rows_then;
            down_is = ap (λ (m : Change). m.down) z ∙ sum_down ∙ ap (λ (m : List Row). pos (booked_down_all m)) rows_then;
          }
          )
