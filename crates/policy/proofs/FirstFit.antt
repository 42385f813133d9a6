-- The table of the status: it gives the status, some row always fits, and the first that fits decides. Assumes nothing.
use Prim.Native.Nat.{ℕ}
use mathlib.Core.Path.{◌≡◌, refl, ap, sym, ◌∙◌}
use mathlib.Core.List.{List, [], ◌∷◌, ◌++◌}
use mathlib.Core.Bool.{Bool, true, false, cond, not, false≢true}
use lib.ListN.{get_or, take}
use lib.Dec.{eqb}
use borrow.Author.Tests.{eqb-true}
use Rattle.std.specs.Prelude.{Option, Some, None, option_map}
use Rattle.sdp.specs.Direction.{sendrecv, sendonly, inactive}
use Rattle.sdp.specs.declared.Media.{Media}
use Rattle.flow.specs.declared.status.Status.TheVariants.{Enabled}
use Rattle.flow.specs.Session.{disabled, removed, status_number}
use Rattle.flow.specs.Status.{handset_offered, is_removed, one_way, status_of, status}
use Rattle.flow.proofs.Tests.{by_test}
use Rattle.policy.specs.declared.status_table.Case.{Case}
use Rattle.policy.specs.declared.status_table.StatusRow.{StatusRow}
use Rattle.policy.specs.StatusTable.{row, rows, met, fits, status_by, Decides, here, later, port_by, port_of, sdp_of, counts_as, case_by, case_of}

-- the number of the status by the table
abbrev pub number_by : Case → Option ℕ
number_by c = option_map status_number (status_by rows c)

-- The table gives what `status` says of a text, for sendrecv, sendonly and inactive,
three_give : (zero handset : Bool)
    → (number_by (case_by (port_by zero) sendrecv handset) ≡ Some (cond zero removed (status_of sendrecv handset)))
    × (number_by (case_by (port_by zero) sendonly handset) ≡ Some (cond zero removed (status_of sendonly handset)))
    × (number_by (case_by (port_by zero) inactive handset) ≡ Some (cond zero removed (status_of inactive handset)))
unfolding rows met fits status_by sdp_of counts_as status_of one_way
three_give true true = (refl, refl, refl)
three_give true false = (refl, refl, refl)
three_give false true = (refl, refl, refl)
three_give false false = (refl, refl, refl)

-- and for every other number, recvonly among them.
other_gives : (zero handset : Bool) (direction : ℕ) → eqb direction sendrecv ≡ false → eqb direction sendonly ≡ false → eqb direction inactive ≡ false
    → number_by (case_by (port_by zero) direction handset) ≡ Some (cond zero removed (status_of direction handset))
unfolding rows met fits status_by sdp_of counts_as status_of one_way
other_gives true true direction e f g = refl
other_gives true false direction e f g = refl
other_gives false true direction e f g = rw (e, f, g)
other_gives false false direction e f g = rw (e, f, g)

-- So for all of them.
text_gives : (zero handset : Bool) (direction : ℕ)
    → number_by (case_by (port_by zero) direction handset) ≡ Some (cond zero removed (status_of direction handset))
text_gives zero handset direction =
    by_test (eqb direction sendrecv) (λ e. rw (eqb-true direction sendrecv e) (three_give zero handset).0)
    (λ e. by_test (eqb direction sendonly) (λ f. rw (eqb-true direction sendonly f) (three_give zero handset).1)
    (λ f. by_test (eqb direction inactive) (λ g. rw (eqb-true direction inactive g) (three_give zero handset).2)
    (λ g. other_gives zero handset direction e f g)))

-- An inactive text gives DISABLED, whichever SDP it is.
by_inactive : (direction : ℕ) (handset : Bool) → eqb direction inactive ≡ true → status_of direction handset ≡ disabled
unfolding status_of
by_inactive direction handset e = rw e

-- The table gives the status, for every origin, offer and answer.
pub table_gives : (origin : ℕ) (offer answer : Media) → option_map status_number (status_by rows (case_of origin offer answer)) ≡ Some (status origin offer answer)
unfolding case_of port_of status
table_gives origin offer answer =
    by_test (eqb offer.direction inactive)
    (λ e. rw e (text_gives (is_removed offer answer) (handset_offered origin) offer.direction
    ∙ ap (λ s. Some (cond (is_removed offer answer) removed s)) (by_inactive offer.direction (handset_offered origin) e)))
    (λ e. rw e (text_gives (is_removed offer answer) (not (handset_offered origin)) answer.direction))

-- The first row that fits gives the status,
pub first_gives : (rs : List StatusRow) (c : Case) (r : StatusRow) → Decides rs c r → status_by rs c ≡ Some r.3
unfolding status_by
first_gives _ c r (here e) = rw e
first_gives _ c r (later {rs = rs} e x) = rw e (first_gives rs c r x)

-- and no other is the first.
pub one_decides : (rs : List StatusRow) (c : Case) (q r : StatusRow) → Decides rs c q → Decides rs c r → q ≡ r
one_decides _ c q r (here e) (here f) = refl
one_decides _ c q r (here e) (later f y) = absurd (false≢true (sym f ∙ e))
one_decides _ c q r (later e x) (here f) = absurd (false≢true (sym e ∙ f))
one_decides _ c q r (later {rs = rs} e x) (later f y) = one_decides rs c q r x y

-- In a table whose last row fits some row does: the first that fits.
first_of : (c : Case) (rs : List StatusRow) (last : StatusRow) → fits last c ≡ true → (r : StatusRow) × Decides (rs ++ last ∷ []) c r
first_of c [] last e = (last, here e)
first_of c (q ∷ rs) last e = by_test (fits q c) (λ f. (q, here f)) (λ f. ((first_of c rs last e).0, later f (first_of c rs last e).1))

-- Some row always fits: the last one asks nothing.
pub some_row_decides : (c : Case) → (r : StatusRow) × Decides rows c r
unfolding rows met fits
some_row_decides c = first_of c (take 6 rows) (get_or rows 6 (row None None None Enabled)) refl

-- The status is that of the first row that fits.
pub row_gives : (origin : ℕ) (offer answer : Media) (r : StatusRow) → Decides rows (case_of origin offer answer) r → status origin offer answer ≡ status_number r.3
row_gives origin offer answer r x =
    let same : Some (status origin offer answer) ≡ Some (status_number r.3) =
    sym (table_gives origin offer answer) ∙ ap (option_map status_number) (first_gives rows (case_of origin offer answer) r x) in
    cc
