-- An answer whose text is good and fits: what it books, and that its rates are in range. Assumes nothing.
use Prim.Native.Nat.{ℕ, ◌≤◌}
use mathlib.Core.Path.{◌≡◌}
use mathlib.Core.List.{List}
use mathlib.Core.Bool.{true}
use borrow.Author.Tests.{ne_eqb}
use Rattle.sdp.specs.Text.{read_text}
use Rattle.sdp.proofs.Ranges.{good_text}
use Rattle.flow.specs.declared.Descriptions.{Descriptions}
use Rattle.flow.specs.declared.Held.{Held}
use Rattle.flow.specs.declared.Settings.{Settings}
use Rattle.flow.specs.Before.{before_of}
use Rattle.flow.specs.Derive.{said_at, derived}
use Rattle.flow.specs.Fit.{said, fit_of}
use Rattle.flow.specs.Range.{SettingsRange, held_rates}
use Rattle.flow.proofs.Ranges.{derived_rates, said_rates}
use Rattle.book.specs.declared.Offer.{Offer}
use Rattle.book.specs.declared.Row.{Row}
use Rattle.book.specs.declared.Seen.{Seen}
use Rattle.book.specs.Calls.{barred, answer_books, answer_said, answer_step}

pub books : (row : Row) (seen : Seen) (settings : Settings) (text : List ℕ) (d : Descriptions) (held : Held) → d ≡ said (read_text text)
    → held ≡ derived settings row.offer.origin (before_of row.held) row.offer.said d → (read_text text).refusal ≡ 0 → barred seen row true ≡ 0
    → (row.offer.present ≡ 0 → ⊥) → (fit_of row.offer.said d).refusal ≡ 0
    → answer_books row seen settings.pool held ≡ answer_step row seen settings text
unfolding answer_step answer_said
books row seen settings text d held is-d is_held good z p fit = rw (z, ne_eqb row.offer.present 0 p, good, ← is-d, fit, is_held)

-- The rates that the session would hold are in range.
pub derived_in : (settings : Settings) (held next : Held) (offer : Offer) (d : Descriptions) (text : List ℕ)
    → next ≡ derived settings offer.origin (before_of held) offer.said d → (read_text text).refusal ≡ 0 → d ≡ said (read_text text)
    → SettingsRange settings → ((j : ℕ) → (said_at offer.said j).requested ≤ 4294967295) → held_rates next ≡ true
derived_in settings held next offer d text is_next good is-d limits offered =
    rw is_next
    (derived_rates settings offer.origin (before_of held) offer.said d limits offered
    (rw is-d (said_rates {t = read_text text} (good_text text good).1)))
