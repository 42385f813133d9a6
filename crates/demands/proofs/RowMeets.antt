-- The calls of the book act on their rows by the laws of `RowLaws`. Assumes nothing.
use Prim.Native.Nat.{ℕ}
use native.Mathlib.Omega.{arith}
use mathlib.Core.Path.{◌≡◌, refl, sym, ◌∙◌, ap}
use mathlib.Core.List.{List}
use mathlib.Core.Bool.{Bool, true}
use Rattle.flow.specs.declared.Asked.{Asked}
use Rattle.flow.specs.declared.Settings.{Settings}
use Rattle.flow.specs.Range.{SettingsRange}
use Rattle.book.specs.declared.Row.{Row}
use Rattle.book.specs.declared.Seen.{Seen}
use Rattle.book.specs.declared.Stepped.{Stepped}
use Rattle.book.specs.Calls.{settled, barred, offer_step, answer_step, cancel_step, close_step, is_asked, bearer_step, statement_step, statement_bytes}
use Rattle.book.specs.Model.{Call, offers, answers, cancels, closes, asks, states, row_call}
use Rattle.demands.proofs.Passed.{offer_accepted, answer_accepted, cancel_accepted, close_accepted}
use Rattle.demands.proofs.RowLaws.{Opens, Drops, Books, Frees, Reads, Does, RowLaws}
use Rattle.book.specs.Sound.{RowRange}
use Rattle.demands.proofs.RowRanges.{row_range}
use Rattle.demands.proofs.Refusals.{row_call_lem}

module _ (row : Row) (r : RowRange row) where
  -- A row without an open offer is settled.
  closed_settled : row.offer.present ≡ 0 → settled row ≡ row
  closed_settled e = ap (λ o. record { held = row.held; offer = o }) (sym (r.none e))

  -- 10 and 19 do not look at the open offer of a row in its ranges.
  barred_settled : (seen : Seen) (well : Bool) → barred seen (settled row) well ≡ barred seen row well
  unfolding barred
  barred_settled seen well = refl

module _ (settings : Settings) (seen : Seen) (row : Row) (r : RowRange row) where
  offer_opens : (session origin : ℕ) (text : List ℕ) → (offer_step row seen origin text).reply.refusal ≡ 0 → Opens settings seen row (offers session origin text)
  unfolding row_call offer_step barred
  offer_opens session origin text h =
      let a = offer_accepted row seen origin text h in
      let same = closed_settled row r a.closed in
      record {
        from = same;
        to = ap (λ (step : Stepped). settled step.row) a.leaves ∙ same;
        opened = λ e. let z = ap (λ (w : Row). w.offer.present) (e ∙ ap (λ (step : Stepped). step.row) a.leaves) in omega (arith, z);
        blind = λ other e f. rw (e, f);
      }

  answer_books_lem : (session : ℕ) (text : List ℕ) → (answer_step row seen settings text).reply.refusal ≡ 0 → Books settings seen row (answers session text)
  unfolding row_call
  answer_books_lem session text h =
      let a = answer_accepted row seen settings text h in
      record { from = λ e. a.offered (sym (ap (λ (w : Row). w.offer.present) e)); to = rw a.leaves }

  cancel_drops : (session : ℕ) → (cancel_step row seen).reply.refusal ≡ 0 → Drops settings seen row (cancels session)
  unfolding row_call
  cancel_drops session h = record { to = rw (cancel_accepted row seen h).leaves }

  close_frees : (session : ℕ) → (close_step row seen).reply.refusal ≡ 0 → Frees settings seen row (closes session)
  unfolding row_call
  close_frees session h =
      let a = close_accepted row seen h in
      record { from = closed_settled row r a.closed; to = rw a.leaves }

  bearer_reads : (session : ℕ) (bearer : Asked) → Reads settings seen row (asks session bearer)
  unfolding row_call bearer_step
  bearer_reads session bearer = record { same = refl; unseen = rw (barred_settled row r seen (is_asked bearer.class)) }

  statement_reads : (session room : ℕ) → Reads settings seen row (states session room)
  unfolding row_call statement_step statement_bytes
  statement_reads session room = record { same = refl; unseen = rw (barred_settled row r seen true) }

  does : (call : Call) → (row_call settings seen row call).out.reply.refusal ≡ 0 → Does settings seen row call
  unfolding row_call
  does (offers session origin text) h = offer_opens session origin text h
  does (answers session text) h = answer_books_lem session text h
  does (cancels session) h = cancel_drops session h
  does (closes session) h = close_frees session h
  does (asks session bearer) h = bearer_reads session bearer
  does (states session room) h = statement_reads session room

-- The book keeps the laws.
pub book_laws : (settings : Settings) → SettingsRange settings → RowLaws settings
book_laws settings limits =
    record {
      range = λ seen row call r. row_range settings limits seen row r call;
      refuses = λ seen row call. (row_call_lem row seen settings call).same;
      accepts = λ seen row call r. does settings seen row r call;
    }
