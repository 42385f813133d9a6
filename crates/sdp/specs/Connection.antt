-- "`c=IN IP4 a.b.c.d`: four numbers 0-255 of 1 to 3 digits, nothing after."
use Rattle.std.specs.Prelude.{Option, Some, None}
use Rattle.sdp.specs.declared.Address.{Address}
use Rattle.std.specs.Prelude.{ℕ, ◌+◌, ◌*◌, List, [], ◌∷◌, cond, drop}
use Rattle.cursor.specs.Bytes.{starts_with, split, bytes}
use Rattle.cursor.specs.Parts.{on_number}

-- the address as one number
abbrev pub joined : ℕ → ℕ → ℕ → ℕ → ℕ
joined a b c d = ((a * 256 + b) * 256 + c) * 256 + d

-- nothing after
abbrev pub on_none : List (List ℕ) → Option Address → Option Address
on_none [] good = good
on_none (x ∷ xs) good = None

-- what follows `IN IP4 `, cut at each dot
unfoldable pub address_of : List (List ℕ) → Option Address
address_of parts =
    on_number 3 255 parts None λ a parts₁.
    on_number 3 255 parts₁ None λ b parts₂.
    on_number 3 255 parts₂ None λ c parts₃.
    on_number 3 255 parts₃ None λ d parts₄.
    on_none parts₄ (Some (record { known = 1; bits = joined a b c d }))

abbrev pub dot : ℕ
dot = 46

-- the value of a `c=` line
unfoldable pub connection_of : List ℕ → Option Address
connection_of v = cond (starts_with (bytes "IN IP4 ") v) (address_of (split dot (drop 7 v))) None
