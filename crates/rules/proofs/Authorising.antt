-- `authorise`, by what `sum_over` gives. Assumes nothing.
use mathlib.Core.Path.{◌≡◌, refl, sym}
use mathlib.Core.Bool.{Bool, true, false, not, ◌&&◌, ◌||◌}
use lib.Dec.{leb, eqb}
use Rattle.std.specs.Prelude.{Some, None}
use Rattle.std.specs.Bool.{then_some}
use Rattle.flow.specs.declared.Asked.{Asked}
use Rattle.flow.specs.declared.Held.{Held}
use Rattle.rules.specs.declared.bearing.Sum.{Sum}
use Rattle.flow.specs.Bearer.{names_past, count_of, authorised_up, authorised_down, authorised_class, some_live, accepted, authorised}
use Rattle.rules.specs.Steps.{within, summed, names_well}

none_by : {A : Type 0} (empty past : Bool) (x : A) → then_some (not empty && not past) x ≡ None → (empty || past) ≡ true
none_by true past x e = refl
none_by false true x e = refl
none_by false false x e = cc

some_by : {A : Type 0} (empty past : Bool) (x y : A) → then_some (not empty && not past) x ≡ Some y → ((empty || past) ≡ false) × (x ≡ y)
some_by true past x y e = cc
some_by false true x y e = cc
some_by false false x y e = let q : x ≡ y = cc in (refl, q)

all_four : (a b c d : Bool) → (a && b && c && d) ≡ (a && (b && (c && d)))
all_four true true c d = refl
all_four true false c d = refl
all_four false b c d = refl

module _ (held : Held) (asked : Asked) where
  pub none_named : then_some (names_well held asked.set) (summed held asked.set) ≡ None → record { refusal = 18; class = 0; up = 0; down = 0 } ≡ authorised held asked
  unfolding authorised
  none_named e = rw (none_by (eqb asked.set 0) (names_past asked.set (count_of held)) (summed held asked.set) e)

  module _ (sum : Sum) (e : then_some (names_well held asked.set) (summed held asked.set) ≡ Some sum) where
    named : ((eqb asked.set 0 || names_past asked.set (count_of held)) ≡ false) × (summed held asked.set ≡ sum)
    named = some_by (eqb asked.set 0) (names_past asked.set (count_of held)) (summed held asked.set) sum e

    covers : accepted held asked ≡ within sum asked
    unfolding accepted authorised_up authorised_down authorised_class some_live
    covers =
        sym (rw (← named.1)
        (all_four (summed held asked.set).live (leb (summed held asked.set).class asked.class) (leb asked.up (summed held asked.set).up)
        (leb asked.down (summed held asked.set).down)))

    pub all_covered : within sum asked ≡ true → record { refusal = 0; class = sum.class; up = sum.up; down = sum.down } ≡ authorised held asked
    unfolding authorised authorised_up authorised_down authorised_class
    all_covered t = rw (named.0, covers, t, ← named.1)

    pub not_covered : within sum asked ≡ false → record { refusal = 17; class = sum.class; up = sum.up; down = sum.down } ≡ authorised held asked
    unfolding authorised authorised_up authorised_down authorised_class
    not_covered t = rw (named.0, covers, t, ← named.1)
