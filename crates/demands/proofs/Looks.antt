-- A look that finds all rows sound has found each of them sound, the named one too: so no call has to test it again for 19. Assumes nothing.
use Prim.Native.Nat.{ℕ, zero, suc, ◌<◌}
use native.Mathlib.Omega.{arith}
use mathlib.Core.Path.{◌≡◌, refl}
use mathlib.Core.Bool.{true}
use mathlib.Core.List.{List, [], ◌∷◌}
use lib.ListN.{length, get_or}
use Rattle.sdp.proofs.Said.{on_cond}
use Rattle.flow.proofs.Tests.{by_test}
use Rattle.book.specs.declared.Row.{Row}
use Rattle.book.specs.declared.Seen.{Seen}
use Rattle.book.specs.Calls.{fresh_row}
use Rattle.book.specs.Look.{looked}
use Rattle.book.specs.Model.{look}
use Rattle.book.specs.Sound.{is_sound}

-- What was not sound stays so.
unsound_stays : (rows : List Row) (seen : Seen) → seen.sound ≡ 0 → (look seen rows).sound ≡ 0
unfolding look looked
unsound_stays [] seen h = h
unsound_stays (row ∷ rows) seen h = unsound_stays rows (looked seen row) (on_cond (λ n. n ≡ 0) (is_sound row) h refl)

pub seen_sound : (rows : List Row) (seen : Seen) → ((look seen rows).sound ≡ 0 → ⊥) → (j : ℕ) → j < length rows → is_sound (get_or rows j fresh_row) ≡ true
unfolding look looked
seen_sound [] seen h j l = absurd (omega arith)
seen_sound (row ∷ rows) seen h zero l = by_test (is_sound row) (λ e. e) (λ e. absurd (h (unsound_stays rows (looked seen row) (rw e))))
seen_sound (row ∷ rows) seen h (suc j) l = seen_sound rows (looked seen row) h j (omega arith)
