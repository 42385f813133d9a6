-- Demand 3 holds of the calls on lent rows: whatever answers, bytes and rows they give, if they keep their promise. Assumes nothing.
use Prim.Native.Nat.{ℕ, ◌≤◌}
use mathlib.Core.Path.{◌≡◌, refl, ap}
use mathlib.Core.List.{List, [], ◌∷◌, map}
use Rattle.flow.specs.declared.Settings.{Settings}
use Rattle.flow.specs.Range.{SettingsRange}
use Rattle.book.specs.declared.Row.{Row}
use Rattle.book.specs.Demand3.{fresh_book}
use Rattle.book.specs.Model.{Call, call_of, log, end}
use Rattle.book.specs.Serial.{calls_of}
use Rattle.demands.proofs.Demand3.{demand_3}
use Rattle.lent.specs.Lent.{Made}
use Rattle.lent.specs.Played.{Played, last_rows, told, left_lent, ChangesAdd, Demand3Lent}
use Rattle.lent.proofs.Told.{told_is}

-- What was told of calls that kept their promises is what the model gives out, and the rows in the end are the model's.
module _ (settings : Settings) where
  pub played_told : (rows : List Row) (calls : List Call) (mades : List Made) → Played settings rows calls mades → map told mades ≡ log settings rows calls
  unfolding log
  played_told rows [] [] p = refl
  played_told rows [] (made ∷ mades) p = elim p [ ]
  played_told rows (call ∷ calls) [] p = elim p [ ]
  played_told rows (call ∷ calls) (made ∷ mades) p =
      rw (told_is settings rows call made p.0, ← p.0.rows) (ap (λ outs. (call_of settings rows call).out ∷ outs) (played_told made.rows calls mades p.1))

  pub played_rows : (rows : List Row) (calls : List Call) (mades : List Made) → Played settings rows calls mades → last_rows rows mades ≡ end settings rows calls
  unfolding end
  played_rows rows [] [] p = refl
  played_rows rows [] (made ∷ mades) p = elim p [ ]
  played_rows rows (call ∷ calls) [] p = elim p [ ]
  played_rows rows (call ∷ calls) (made ∷ mades) p = rw (← p.0.rows) (played_rows made.rows calls mades p.1)

module _ (settings : Settings) (limits : SettingsRange settings) (n : ℕ) (few : n ≤ 16) (calls : List Call) (mades : List Made)
    (played : Played settings (fresh_book n) calls mades) where
  pub changes_add : ChangesAdd n mades
  changes_add =
      let told_same = played_told settings (fresh_book n) calls mades played in
      let ended = played_rows settings (fresh_book n) calls mades played in
      let d = demand_3 settings limits n few calls in
      record { up = rw (told_same, ended) d.changes.up; down = rw (told_same, ended) d.changes.down }

-- Demand 3 of lent rows, up to 16 and fresh at first, with settings in range: for all calls that came, and every playing of the calls left.
pub demand_3_lent : (settings : Settings) → SettingsRange settings → (n : ℕ) → n ≤ 16
    → (calls : List Call) (mades : List Made) → Played settings (fresh_book n) calls mades
    → (again : List Made) → Played settings (fresh_book n) (calls_of (left_lent calls mades)) again
    → Demand3Lent settings n calls mades again
demand_3_lent settings limits n few calls mades played again replayed =
    let told_same = played_told settings (fresh_book n) calls mades played in
    let ended = played_rows settings (fresh_book n) calls mades played in
    let told-again = played_told settings (fresh_book n) (calls_of (left_lent calls mades)) again replayed in
    let ended-again = played_rows settings (fresh_book n) (calls_of (left_lent calls mades)) again replayed in
    let d = demand_3 settings limits n few calls in
    record {
      answers = rw (told-again, told_same) d.serially.answers;
      book = rw (ended-again, ended, told_same) d.serially.book;
      holds = λ session lt. record {
        as_came = rw (ended, told_same) (d.holds session lt).as_came;
        as_left = rw (ended-again, told_same) (d.holds session lt).as_left;
      };
      changes = changes_add settings limits n few calls mades played;
      changes_again = changes_add settings limits n few (calls_of (left_lent calls mades)) again replayed;
    }
