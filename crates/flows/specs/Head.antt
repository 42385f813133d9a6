-- What the head of an exchange says: origin + 2 * mode, by its mode 0 go on, 1 fresh, 2 from the saved state, 3 fresh, and save.
use Rattle.std.specs.Prelude.{ℕ, ◌/◌, ◌%◌, cond, leb, eqb, Option, None, Some}
use Rattle.flows.specs.declared.head.Mode.{Mode}
use Rattle.flows.specs.declared.head.Mode.TheVariants.{GoOn, Fresh, FromSaved, FreshAndSave}
use Rattle.flows.specs.declared.head.Head.{Head}

abbrev pub mode_of : ℕ → Mode
mode_of n = cond (eqb n 0) GoOn (cond (eqb n 1) Fresh (cond (eqb n 2) FromSaved FreshAndSave))

-- a head is below 8
unfoldable pub head_of : ℕ → Option Head
head_of n = cond (leb 8 n) None (Some (record { origin = n % 2; mode = mode_of (n / 2) }))
