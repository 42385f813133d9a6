-- The look at all rows is a fold over them. Assumes nothing.
use mathlib.Core.Path.{◌≡◌, refl}
use mathlib.Core.List.{List, [], ◌∷◌}
use Rattle.std.specs.List.{fold}
use Rattle.book.specs.declared.Row.{Row}
use Rattle.book.specs.declared.Seen.{Seen}
use Rattle.book.specs.Look.{looked}
use Rattle.book.specs.Model.{look}
use Rattle.lending.specs.Looks.{seen_all}

pub look_fold : (rows : List Row) (seen : Seen) → fold looked seen rows ≡ seen_all rows seen
unfolding look
look_fold [] seen = refl
look_fold (row ∷ rows) seen = look_fold rows (looked seen row)
