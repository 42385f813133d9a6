-- How a call acts on its row: the few laws on which the order of play rests. Assumes nothing.
use mathlib.Core.Path.{◌≡◌}
use Rattle.flow.specs.declared.Settings.{Settings}
use Rattle.book.specs.declared.Row.{Row}
use Rattle.book.specs.declared.Seen.{Seen}
use Rattle.book.specs.Calls.{settled}
use Rattle.book.specs.Model.{Call, offers, answers, cancels, closes, asks, states, row_call}
use Rattle.book.specs.Sound.{RowRange}

module _ (settings : Settings) (seen : Seen) (row : Row) (call : Call) where
  -- an accepted offer: the row had none open, has one then, and is the same but for it; what the look saw booked does not matter
  pub record Opens : Type 0 where
    pub from : settled row ≡ row
    pub to : settled (row_call settings seen row call).row ≡ row
    pub opened : settled (row_call settings seen row call).row ≡ (row_call settings seen row call).row → ⊥
    pub blind : (other : Seen) → other.rows ≡ seen.rows → other.sound ≡ seen.sound → row_call settings other row call ≡ row_call settings seen row call

  -- an accepted cancellation: the row is the same but for its open offer
  pub record Drops : Type 0 where
    pub to : (row_call settings seen row call).row ≡ settled row

  -- an accepted answer: the row had an open offer, and has none then
  pub record Books : Type 0 where
    pub from : settled row ≡ row → ⊥
    pub to : settled (row_call settings seen row call).row ≡ (row_call settings seen row call).row

  -- an accepted close: the row has no open offer, before and after
  pub record Frees : Type 0 where
    pub from : settled row ≡ row
    pub to : settled (row_call settings seen row call).row ≡ (row_call settings seen row call).row

  -- a call that reads: the row stays, and its open offer does not matter
  pub record Reads : Type 0 where
    pub same : (row_call settings seen row call).row ≡ row
    pub unseen : row_call settings seen (settled row) call ≡ record { row = settled row; out = (row_call settings seen row call).out }

-- what an accepted call does, by what it is
abbrev pub Does : Settings → Seen → Row → Call → Type 0
Does settings seen row (offers session origin text) = Opens settings seen row (offers session origin text)
Does settings seen row (answers session text) = Books settings seen row (answers session text)
Does settings seen row (cancels session) = Drops settings seen row (cancels session)
Does settings seen row (closes session) = Frees settings seen row (closes session)
Does settings seen row (asks session bearer) = Reads settings seen row (asks session bearer)
Does settings seen row (states session room) = Reads settings seen row (states session room)

-- all that is asked of the calls on a row
pub record RowLaws (settings : Settings) : Type 0 where
  pub range : (seen : Seen) (row : Row) (call : Call) → RowRange row → RowRange (row_call settings seen row call).row
  pub refuses : (seen : Seen) (row : Row) (call : Call) → ((row_call settings seen row call).out.reply.refusal ≡ 0 → ⊥) → (row_call settings seen row call).row ≡ row
  pub accepts : (seen : Seen) (row : Row) (call : Call) → RowRange row → (row_call settings seen row call).out.reply.refusal ≡ 0 → Does settings seen row call
