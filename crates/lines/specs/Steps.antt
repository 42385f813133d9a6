-- What the readers of a line's value give on the way, in the terms of the cursor. The promise of `read`, above them, cites none of it.
use Rattle.std.specs.Prelude.{ℕ, List, Option, Some, None, cond, length, eqb}
use Rattle.cursor.specs.Cursor.{figure_at, mark_at, on_some}
use Rattle.cursor.specs.declared.Cursor.{Cursor}
use Rattle.sdp.specs.Connection.{joined, dot}
use Rattle.sdp.specs.declared.Address.{Address}

-- a number of an address, and the dot after it
unfoldable pub dotted_at : List ℕ → ℕ → Option (ℕ × Cursor)
dotted_at v at =
    on_some (figure_at v at 3 255) None λ (n, p).
    on_some (mark_at v p.at dot) None λ q.
    Some (n, q)

unfoldable pub address_at : List ℕ → ℕ → Option Address
address_at v p0 =
    on_some (dotted_at v p0) None λ (a, p1).
    on_some (dotted_at v p1.at) None λ (b, p2).
    on_some (dotted_at v p2.at) None λ (c, p3).
    on_some (figure_at v p3.at 3 255) None λ (d, p4).
    cond (eqb p4.at (length v)) (Some (record { known = 1; bits = joined a b c d })) None

-- the amount of a `b=` line, from `at` on
unfoldable pub amount_of : List ℕ → ℕ → ℕ → Option ℕ
amount_of v at max =
    on_some (figure_at v at 10 max) None λ (n, p).
    cond (eqb p.at (length v)) (Some n) None
