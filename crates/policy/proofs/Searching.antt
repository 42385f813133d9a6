-- The loop of `status_by`: what holds before each turn, and how it ends. Assumes nothing.
use Prim.Native.Nat.{ℕ, zero, suc, ◌+◌, ◌≤◌, ◌<◌}
use native.Mathlib.Omega.{arith}
use mathlib.Core.Path.{◌≡◌, ap, sym, ◌∙◌}
use mathlib.Core.List.{List, [], ◌∷◌}
use Rattle.std.specs.Prelude.{Some}
use mathlib.Core.Bool.{Bool, true, false}
use lib.ListN.{length, get_or, drop, drop_of_length-le}
use Rattle.policy.specs.declared.status_table.Case.{Case}
use Rattle.policy.specs.declared.status_table.StatusRow.{StatusRow}
use Rattle.flow.specs.declared.status.Status.{Status}
use Rattle.policy.specs.StatusTable.{rows, fits, status_by}
use Rattle.policy.proofs.FirstFit.{first_gives, some_row_decides}

-- From a row that fits on, it is that row's status;
pub from_fits : (rs : List StatusRow) (i : ℕ) (x : StatusRow) (c : Case) → i < length rs → fits (get_or rs i x) c ≡ true → status_by (drop i rs) c ≡ Some (get_or rs i x).3
unfolding status_by
from_fits [] i x c h e = absurd (omega (arith, h))
from_fits (r ∷ rs) zero x c h e = rw e
from_fits (r ∷ rs) (suc i) x c h e = from_fits rs i x c (omega (arith, h)) e

-- from one that does not, it is the status by those after it.
pub from_next : (rs : List StatusRow) (i : ℕ) (x : StatusRow) (c : Case) → i < length rs → fits (get_or rs i x) c ≡ false → status_by (drop i rs) c ≡ status_by (drop (suc i) rs) c
unfolding status_by
from_next [] i x c h e = absurd (omega (arith, h))
from_next (r ∷ rs) zero x c h e = rw e
from_next (r ∷ rs) (suc i) x c h e = from_next rs i x c (omega (arith, h)) e

-- before turn i: the rows from i on give the status
pub record Searching (c : Case) (table : List StatusRow) (i : ℕ) : Type 0 where
  pub same : table ≡ rows
  pub passed : status_by table c ≡ status_by (drop i table) c

seven : (table : List StatusRow) → table ≡ rows → length table ≡ 7
unfolding rows
seven table e = rw e

none_of_none : (c : Case) (s : Status) → status_by [] c ≡ Some s → ⊥
unfolding status_by
none_of_none c s e = cc

module _ (c : Case) (table : List StatusRow) (i : ℕ) where
  pub searching_next : (x : StatusRow) (b : Bool) → Searching c table i → i < 7 → b ≡ fits (get_or table i x) c → b ≡ false → Searching c table (i + 1)
  searching_next x b s h e f =
      let one : suc i ≡ i + 1 = omega arith in
      record {
        same = s.same;
        passed = s.passed ∙ from_next table i x c (omega (arith, h, seven table s.same)) (sym e ∙ f) ∙ ap (λ n. status_by (drop n table) c) one;
      }

  pub found : (x : StatusRow) (b : Bool) → Searching c table i → i < 7 → b ≡ fits (get_or table i x) c → b ≡ true → status_by rows c ≡ Some (get_or table i x).3
  found x b s h e t =
      ap (λ l. status_by l c) (sym s.same) ∙ s.passed ∙ from_fits table i x c (omega (arith, h, seven table s.same)) (sym e ∙ t)

  -- Some row fits, so the search ends at one.
  pub none_left : Searching c table i → 7 ≤ i → ⊥
  none_left s h =
      let none : status_by rows c ≡ status_by [] c = ap (λ l. status_by l c) (sym s.same) ∙ s.passed ∙ ap (λ l. status_by l c) (drop_of_length-le table (omega (arith, h, seven table s.same))) in
      let some : status_by rows c ≡ Some (some_row_decides c).0.3 = first_gives rows c (some_row_decides c).0 (some_row_decides c).1 in
      none_of_none c (some_row_decides c).0.3 (sym none ∙ some)
