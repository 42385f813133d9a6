-- What a session holds: its row is at all times what its past says. Assumes nothing.
use Prim.Native.Nat.{ℕ, ◌<◌}
use mathlib.Core.Path.{◌≡◌, refl, sym, ◌∙◌, ap}
use mathlib.Core.Bool.{Bool, true, false, not, ◌||◌}
use mathlib.Core.List.{List, [], ◌∷◌, ◌++◌}
use mathlib.Core.Option.{Option, none, some}
use lib.Dec.{eqb}
use lib.ListN.{length, get_or}
use lib.Seq.{get_or-set_same}
use borrow.Author.Tests.{eqb-true, eqb-false}
use Rattle.sdp.specs.Text.{read_text}
use Rattle.flow.specs.declared.Held.{Held}
use Rattle.flow.specs.declared.Settings.{Settings}
use Rattle.flow.specs.Session.{fresh_held}
use Rattle.book.specs.declared.Row.{Row}
use Rattle.book.specs.declared.Seen.{Seen}
use Rattle.book.specs.Calls.{no_offer, fresh_row, derives}
use Rattle.book.specs.Look.{nothing_seen}
use Rattle.book.specs.Model.{Call, offers, answers, cancels, closes, asks, states, session_of, look, row_call, call_of, log, end}
use Rattle.book.specs.Serial.{logged, refused}
use Rattle.book.specs.Demand3.{Offered, Exchange, Past, completing, learning, past_from, exchanged, derived_from, open_offer, row_of}
use Rattle.demands.proofs.Passed.{offer_accepted, answer_accepted, cancel_accepted, close_accepted}
use Rattle.demands.proofs.Named.{acts, rows_in, out_in, refused_number, accepted_number}
use Rattle.demands.proofs.Refusals.{row_call_lem, elsewhere, rows_stay}

module _ (settings : Settings) where
  -- One exchange more is derived from what was held before it.
  derived_more : (held : Held) (l : List Exchange) (x : Exchange) → derived_from settings held (l ++ (x ∷ [])) ≡ exchanged settings (derived_from settings held l) x
  unfolding derived_from
  derived_more held [] x = refl
  derived_more held (y ∷ l) x = derived_more (exchanged settings held y) l x

  module _ (seen : Seen) (row : Row) (past : Past) (is : row ≡ row_of settings past) where
    holds_is : row.held ≡ derived_from settings fresh_held past.exchanges
    holds_is = ap (λ (w : Row). w.held) is

    answered : (text : List ℕ) (o : Option Offered) → row.offer ≡ open_offer o → (row.offer.present ≡ 0 → ⊥)
        → derives settings row (read_text text) ≡ derived_from settings fresh_held (completing past.exchanges o text)
    answered text none e opened = absurd (opened (rw e))
    answered text (some o) e opened = rw (derived_more fresh_held past.exchanges (record { offered = o; answer = text }), e, holds_is)

    taken : (call : Call) → (row_call settings seen row call).out.reply.refusal ≡ 0 → (row_call settings seen row call).row ≡ row_of settings (learning false call past)
    unfolding row_call derived_from
    taken (offers session origin text) h = rw ((offer_accepted row seen origin text h).leaves, holds_is)
    taken (answers session text) h =
        let a = answer_accepted row seen settings text h in
        rw a.leaves (ap (λ (held : Held). record { held = held; offer = no_offer }) (answered text past.offered (ap (λ (w : Row). w.offer) is) a.offered))
    taken (cancels session) h = rw ((cancel_accepted row seen h).leaves, holds_is)
    taken (closes session) h = rw (close_accepted row seen h).leaves
    taken (asks session bearer) h = is
    taken (states session room) h = is

    -- A call on its row leaves what the past says then.
    row_learns : (call : Call) → (row_call settings seen row call).row ≡ row_of settings (learning (refused (row_call settings seen row call).out) call past)
    row_learns call = by (refused (row_call settings seen row call).out) refl where
      by : (no : Bool) → refused (row_call settings seen row call).out ≡ no → (row_call settings seen row call).row ≡ row_of settings (learning no call past)
      by true e = (row_call_lem row seen settings call).same (refused_number (row_call settings seen row call).out e) ∙ is
      by false e = taken call (accepted_number (row_call settings seen row call).out e)

  -- So does a call on the book.
  learns : (rows : List Row) (call : Call) (s : ℕ) → s < length rows → (past : Past) → get_or rows s fresh_row ≡ row_of settings past
      → get_or (call_of settings rows call).rows s fresh_row ≡ row_of settings (learning (not (eqb (session_of call) s) || refused (call_of settings rows call).out) call past)
  learns rows call s lt past is = by (eqb (session_of call) s) refl where
    by : (own : Bool) → eqb (session_of call) s ≡ own
        → get_or (call_of settings rows call).rows s fresh_row ≡ row_of settings (learning (not own || refused (call_of settings rows call).out) call past)
    by false e = elsewhere settings rows call s (λ z. eqb-false (session_of call) s e (sym z)) ∙ is
    by true e =
        let z : session_of call ≡ s = eqb-true (session_of call) s e in
        let in-book : session_of call < length rows = rw z lt in
        rw (out_in settings rows call in-book, rows_in settings rows call in-book, ← z, get_or-set_same rows (session_of call) (acts settings rows call).row fresh_row in-book)
        (row_learns (look nothing_seen rows) (get_or rows (session_of call) fresh_row) past (rw z is) call)

  -- After any calls a row is what its past says.
  pub holds_past : (calls : List Call) (rows : List Row) (s : ℕ) → s < length rows → (past : Past) → get_or rows s fresh_row ≡ row_of settings past
      → get_or (end settings rows calls) s fresh_row ≡ row_of settings (past_from s past (logged settings rows calls))
  unfolding log end past_from
  holds_past [] rows s lt past is = is
  holds_past (call ∷ calls) rows s lt past is =
      holds_past calls (call_of settings rows call).rows s (rw (rows_stay settings rows call) lt)
      (learning (not (eqb (session_of call) s) || refused (call_of settings rows call).out) call past)
      (learns rows call s lt past is)
