-- A statement measured on no buffer, and then written or refused. Assumes nothing.
use Prim.Native.Nat.{ℕ, ◌+◌, ◌*◌, ◌≤◌, ◌<◌}
use mathlib.Core.Path.{◌≡◌, ap, ◌∙◌}
use mathlib.Core.List.{List, ◌++◌}
use lib.ListN.{length, take}
use borrow.Author.Tests.{le-leb, lt-leb}
use native.Mathlib.Omega.{arith}
use Rattle.put.specs.Put.{Puts, place}
use Rattle.put.proofs.Places.{place_near}
use Rattle.put.proofs.Texts.{puts_fits, unwritten}
use Rattle.flow.specs.declared.Held.{Held}
use Rattle.flow.specs.Slots.{up_to_eight}
use Rattle.flow.proofs.Slots.{eight_most}
use Rattle.statement.specs.declared.Written.{Written}
use Rattle.statement.specs.Statement.{statement_of, written, after}
use Rattle.stating.proofs.Lengths.{statement_short}

module _ (held : Held) where
  counted : {l x : List ℕ} {n : ℕ} → Puts l 0 (statement_of held) n x → n ≡ length (statement_of held)
  counted p =
      let n = length (statement_of held) in
      let e : 0 + n ≡ n = omega arith in p.next_is ∙ ap place e ∙ place_near n (omega (arith, statement_short held, eight_most held.count))

  -- a buffer that any statement fits
  pub roomy : (l : List ℕ) (n : ℕ) → n ≡ up_to_eight held.count → 42 + 168 * n ≤ length l → length (statement_of held) ≤ length l
  roomy l n e h = omega (arith, h, e, statement_short held)

  -- what is put into no buffer is only counted
  module _ (l part : List ℕ) (n : ℕ) (p : Puts (take 0 l) 0 (statement_of held) n part) where
    pub stays : part ++ l ≡ l
    stays = unwritten l p

    pub refused : length (part ++ l) < n
        → (◌≡◌ {A = Written} (record { refusal = 20; length = n }) (written held (length l))) × (part ++ l ≡ after held l)
    unfolding written after
    refused h =
        let k : length l < length (statement_of held) = omega (arith, counted p, ap length stays) in (
          rw (lt-leb (length (statement_of held)) (length l) k, counted p),
          rw (lt-leb (length (statement_of held)) (length l) k) stays,
        )

    pub fits : n ≤ length (part ++ l) → length (statement_of held) ≤ length l
    fits h = omega (arith, counted p, ap length stays)

  -- where it fits
  pub whole : (l x : List ℕ) (m : ℕ) → length (statement_of held) ≤ length l → Puts l 0 (statement_of held) m x
      → (◌≡◌ {A = Written} (record { refusal = 0; length = m }) (written held (length l))) × (x ≡ after held l)
  unfolding written after
  whole l x m k q =
      (rw (le-leb (length (statement_of held)) (length l) k, counted q), rw (le-leb (length (statement_of held)) (length l) k) (puts_fits q k))
