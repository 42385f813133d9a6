-- Ranges are kept: from rows in their ranges every call leaves rows in their ranges. Assumes nothing.
use Prim.Native.Nat.{ℕ, zero, suc}
use native.Mathlib.Omega.{arith}
use mathlib.Core.Path.{◌≡◌, refl, sym}
use mathlib.Core.List.{List}
use lib.ListN.{get_or, replicate}
use Rattle.sdp.specs.Section.{no_media}
use Rattle.sdp.specs.Text.{read_text}
use Rattle.sdp.proofs.Ranges.{good_text}
use Rattle.flow.specs.declared.Held.{Held}
use Rattle.flow.specs.declared.Settings.{Settings}
use Rattle.flow.specs.Session.{no_component, fresh_held}
use Rattle.flow.specs.Before.{before_of}
use Rattle.flow.specs.Fit.{said}
use Rattle.flow.specs.Range.{is_class, SettingsRange, HeldRange}
use Rattle.flow.proofs.Ranges.{derived_range, said_range}
use Rattle.book.specs.declared.Row.{Row}
use Rattle.book.specs.declared.Seen.{Seen}
use Rattle.book.specs.Calls.{no_offer, fresh_row, offer_step, derives, answer_step, cancel_step, close_step}
use Rattle.book.specs.Look.{nothing_seen}
use Rattle.book.specs.Model.{Call, offers, answers, cancels, closes, asks, states, look, row_call, call_of}
use Rattle.book.specs.Sound.{RowRange}
use Rattle.demands.proofs.Passed.{offer_accepted, answer_accepted, cancel_accepted, close_accepted}
use Rattle.flow.proofs.Ranged.{before_class}
use Rattle.demands.proofs.Refusals.{after_step, offer_step_lem, answer_step_lem, cancel_step_lem, close_step_lem, row_after}
use Rattle.book.proofs.NotBarred.{origin_in}

-- A list of the same has the same everywhere.
pub all_same : {A : Type 0} (n j : ℕ) (a : A) → get_or (replicate n a) j a ≡ a
all_same zero j a = refl
all_same (suc n) zero a = refl
all_same (suc n) (suc j) a = all_same n j a

-- A row with no open offer lies in its ranges where what it holds does.
pub settled_range : (held : Held) → HeldRange held → RowRange (record { held = held; offer = no_offer })
settled_range held h =
    record {
      held = h;
      present = omega arith;
      origin = omega arith;
      said = record { count = omega arith; described = λ j l. absurd (omega (arith, l)); unused = λ j l. all_same 8 j no_media; eight = refl };
      none = λ z. refl;
    }

-- A fresh row lies in its ranges.
pub fresh_range : RowRange fresh_row
unfolding is_class
fresh_range =
    settled_range fresh_held
    (record {
      completed = omega arith;
      kept = refl;
      count = omega arith;
      underived = λ z. (refl, refl);
      components = λ j l. absurd (omega (arith, l));
      unused = λ j l. all_same 8 j no_component;
      eight = refl;
    })

module _ (settings : Settings) (limits : SettingsRange settings) (seen : Seen) (row : Row) (r : RowRange row) where
  offered_range : (origin : ℕ) (text : List ℕ) → RowRange (offer_step row seen origin text).row
  offered_range origin text =
      after_step row seen RowRange (offer_step row seen origin text) (offer_step_lem row seen origin text) r
      (λ h.
      let a = offer_accepted row seen origin text h in
      let good = (good_text text a.good).1 in
      rw a.leaves
      (record {
        held = r.held;
        present = omega arith;
        origin = origin_in row seen 0 origin (sym a.free) refl;
        said = said_range good;
        none = λ z. absurd (omega (arith, z));
      }))

  answered_range : (text : List ℕ) → RowRange (answer_step row seen settings text).row
  answered_range text =
      after_step row seen RowRange (answer_step row seen settings text) (answer_step_lem row seen settings text) r
      (λ h.
      let a = answer_accepted row seen settings text h in
      let answer = said_range (good_text text a.good).1 in
      rw a.leaves
      (settled_range (derives settings row (read_text text))
      (derived_range settings row.offer.origin (before_of row.held) row.offer.said (said (read_text text)) limits (before_class row.held r.held.kept) r.said answer a.fits)))

  cancelled_range : RowRange (cancel_step row seen).row
  cancelled_range =
      after_step row seen RowRange (cancel_step row seen) (cancel_step_lem row seen) r
      (λ h. rw (cancel_accepted row seen h).leaves (settled_range row.held r.held))

  closed_range : RowRange (close_step row seen).row
  closed_range =
      after_step row seen RowRange (close_step row seen) (close_step_lem row seen) r (λ h. rw (close_accepted row seen h).leaves fresh_range)

  -- A call leaves its row in its ranges.
  pub row_range : (call : Call) → RowRange (row_call settings seen row call).row
  unfolding row_call
  row_range (offers session origin text) = offered_range origin text
  row_range (answers session text) = answered_range text
  row_range (cancels session) = cancelled_range
  row_range (closes session) = closed_range
  row_range (asks session bearer) = r
  row_range (states session room) = r

-- all rows in their ranges; past the last one there is a fresh one
pub record RowsRange (rows : List Row) : Type 0 where
  pub each : (j : ℕ) → RowRange (get_or rows j fresh_row)

-- From rows in their ranges every call leaves rows in their ranges.
pub call_range : (settings : Settings) (rows : List Row) (call : Call) → SettingsRange settings → RowsRange rows → RowsRange (call_of settings rows call).rows
call_range settings rows call limits r =
    record {
      each = λ j. row_after settings rows call RowRange j (r.each j) (λ e. row_range settings limits (look nothing_seen rows) (get_or rows j fresh_row) (r.each j) call);
    }
