-- A call of the file, played on a book of sixteen rows. Assumes nothing.
use Prim.Native.Nat.{ℕ, suc, ◌<◌, ◌≤◌}
use native.Mathlib.Omega.{arith}
use mathlib.Core.Path.{◌≡◌, refl, ◌∙◌, ap}
use mathlib.Core.List.{List, [], ◌∷◌, ◌++◌, append_assoc}
use lib.Dec.{ltb}
use lib.ListN.{length, get_or, set}
use mathlib.Core.Bool.{false}
use borrow.Author.Tests.{le-ltb}
use Rattle.flow.specs.declared.Settings.{Settings}
use Rattle.book.specs.declared.Row.{Row}
use Rattle.book.specs.declared.Seen.{Seen}
use Rattle.book.specs.declared.Stepped.{Stepped}
use Rattle.book.specs.Calls.{fresh_row, refused_with}
use Rattle.book.specs.Look.{nothing_seen}
use Rattle.book.specs.Model.{session_of, look, row_call, Called, call_of, log, end}
use Rattle.book.specs.Totals.{booked_up_all, booked_down_all}
use Rattle.demands.proofs.Fresh.{Standing}
use Rattle.demands.proofs.Named.{rows_in, out_in, rows_far, out_far}
use Rattle.demands.proofs.Totals.{look_finds}
use Rattle.frame.specs.declared.Span.{Span}
use Rattle.callfile.specs.declared.ask.Ask.{Ask}
use Rattle.callfile.specs.declared.ask.Ask.TheVariants as ask
use Rattle.callfile.specs.Ask.{letter, session, span_of}
use Rattle.evening.specs.Playing.{spanned, call_with, call_as, answer_line, answer_lines, booked_line, answered}
use Rattle.player.specs.Steps.{step_of, sixteen}

-- The session of a call is the session of its line.
session_with : (text : List ℕ) (a : Ask) → session_of (call_with text a) ≡ session a
unfolding call_with session_of session
session_with text (ask.Offer n origin t) = refl
session_with text (ask.Answer n t) = refl
session_with text (ask.Cancel n) = refl
session_with text (ask.Close n) = refl
session_with text (ask.Bearer n asked) = refl

module _ (settings : Settings) (s : List ℕ) (spans : List Span) where
  session_as : (ask : Ask) → session_of (call_as s spans ask) ≡ session ask
  unfolding call_as
  session_as ask = session_with _ ask

  -- The answers to a call and to those after it.
  pub answered_more : (rows : List Row) (position : ℕ) (ask : Ask) (l : List Ask)
      → answered settings rows position s spans (ask ∷ l)
      ≡ answer_line position (letter ask) (call_of settings rows (call_as s spans ask)).out.reply
      ++ answered settings (call_of settings rows (call_as s spans ask)).rows (suc position) s spans l
  unfolding answered answer_lines log end
  answered_more rows position ask l = append_assoc (answer_line position (letter ask) (call_of settings rows (call_as s spans ask)).out.reply) _ _

  -- After the last call.
  pub answered_none : (rows : List Row) (position : ℕ) → answered settings rows position s spans [] ≡ booked_line rows
  unfolding answered answer_lines log end
  answered_none rows position = refl

  module _ (rows : List Row) (full : length rows ≡ 16) (ask : Ask) where
    abbrev called : Called
    called = call_of settings rows (call_as s spans ask)

    far : 16 ≤ session ask → ltb (session_of (call_as s spans ask)) (length rows) ≡ false
    far h = le-ltb (session_of (call_as s spans ask)) (length rows) (omega (arith, full, h, session_as ask))

    -- At a session past the last row nothing happens, and the answer is 10.
    pub far_rows : 16 ≤ session ask → called.rows ≡ rows
    far_rows h = rows_far settings rows (call_as s spans ask) (far h)

    pub far_reply : 16 ≤ session ask → called.out.reply ≡ refused_with 10 0
    far_reply h = ap (λ out. out.reply) (out_far settings rows (call_as s spans ask) (far h))

    module _ (stands : Standing settings rows) where
      -- A look at the rows sees the totals.
      saw : look nothing_seen rows ≡ sixteen (booked_up_all rows) (booked_down_all rows)
      saw = look_finds rows stands.range stands.few ∙ ap (λ n. record { rows = n; sound = 1; booked = (sixteen (booked_up_all rows) (booked_down_all rows)).booked }) full

      abbrev step : Stepped
      step =
          step_of
          (row_call settings (sixteen (booked_up_all rows) (booked_down_all rows)) (get_or rows (session ask) fresh_row)
          (call_with (spanned s (span_of spans ask)) ask))

      -- At another session the call is the step on its row.
      pub near_rows : session ask < 16 → called.rows ≡ set rows (session ask) step.row
      unfolding call_as
      near_rows h =
          rows_in settings rows (call_as s spans ask) (omega (arith, full, h, session_as ask))
          ∙ ap (λ k. set rows k (row_call settings (look nothing_seen rows) (get_or rows k fresh_row) (call_as s spans ask)).row) (session_as ask)
          ∙ ap (λ (seen : Seen). set rows (session ask) (row_call settings seen (get_or rows (session ask) fresh_row) (call_as s spans ask)).row) saw

      pub near_reply : session ask < 16 → called.out.reply ≡ step.reply
      unfolding call_as
      near_reply h =
          ap (λ out. out.reply) (out_in settings rows (call_as s spans ask) (omega (arith, full, h, session_as ask)))
          ∙ ap (λ k. (row_call settings (look nothing_seen rows) (get_or rows k fresh_row) (call_as s spans ask)).out.reply) (session_as ask)
          ∙ ap (λ (seen : Seen). (row_call settings seen (get_or rows (session ask) fresh_row) (call_as s spans ask)).out.reply) saw
