-- A call's line, and the loop over the calls: what is left gives what the whole gives. Assumes nothing.
use Rattle.std.specs.Prelude.{Option, Some, None}
use Prim.Native.Nat.{ℕ, suc, ◌+◌, ◌-◌, ◌≤◌, ◌<◌}
use mathlib.Core.Path.{◌≡◌}
use mathlib.Core.List.{List}
use mathlib.Core.Bool.{false, cond}
use lib.ListN.{length, get_or}
use lib.Dec.{eqb}
use native.Mathlib.Omega.{arith}
use borrow.Author.Tests.{ne_eqb, lt-leb}
use Rattle.cursor.specs.Cursor.{mark_at, on_some}
use Rattle.cursor.specs.declared.Cursor.{Cursor}
use Rattle.callfile.specs.declared.ask.Ask.{Ask}
use Rattle.callfile.specs.Ask.{lf, letter_o, letter_a, letter_c, letter_x, letter_b, figure_count, lacks_text, behind, ask_at, calls_good}

-- a letter that no call has
pub unknown : (l : ℕ) (s : List ℕ) (at : ℕ) → (l ≡ letter_o → ⊥) → (l ≡ letter_a → ⊥) → (l ≡ letter_c → ⊥) → (l ≡ letter_x → ⊥) → (l ≡ letter_b → ⊥)
    → None ≡ behind l s at
unfolding behind figure_count
unknown l s at o a c x b = rw (ne_eqb l letter_o o, ne_eqb l letter_a a, ne_eqb l letter_c c, ne_eqb l letter_x x, ne_eqb l letter_b b)

-- what follows the letter
abbrev after_letter : List ℕ → ℕ → ℕ → ℕ → Option (Ask × Cursor)
after_letter s at texts l =
    on_some (behind l s (at + 1)) None λ (ask, p).
    on_some (mark_at s p.at lf) None λ q.
    cond (lacks_text ask texts) None (Some (ask, q))

pub letter_there : (s : List ℕ) (at texts l : ℕ) (x : Option (Ask × Cursor)) → at < length s → l ≡ get_or s at 0 → x ≡ after_letter s at texts l
    → x ≡ ask_at s at texts
unfolding ask_at
letter_there s at texts l x h e k = rw (← e, lt-leb (length s) at h) k

-- before call i
pub record Checking (s : List ℕ) (from count texts at i : ℕ) : Type 0 where
  pub within : i ≤ count
  pub same : calls_good (count - i) s texts at ≡ calls_good count s texts from

pub check_begin : (s : List ℕ) (from count texts : ℕ) → Checking s from count texts from 0
check_begin s from count texts = let e : count - 0 ≡ count = omega arith in record { within = omega arith; same = rw e }

module _ (s : List ℕ) (from count texts at i : ℕ) (k : Checking s from count texts at i) where
  left : i < count → count - i ≡ suc (count - (i + 1))
  left h = omega arith

  module _ (h : i < count) (m : Option (Ask × Cursor)) (e : m ≡ ask_at s at texts) where
    pub check_bad : m ≡ None → false ≡ calls_good count s texts from
    unfolding calls_good
    check_bad z = rw (left h, ← e, z) at k.same

    pub check_more : (a : Ask) (p : Cursor) → m ≡ Some (a, p) → Checking s from count texts p.at (i + 1)
    unfolding calls_good
    check_more a p z = record { within = omega arith; same = rw (left h, ← e, z) at k.same }

  pub check_end : count ≤ i → eqb at (length s) ≡ calls_good count s texts from
  unfolding calls_good
  check_end h = let e : count - i ≡ 0 = omega arith in rw e at k.same
