-- What a file is made of: numbers, lines of one number, rows of numbers, texts after their length.
use Rattle.std.specs.Prelude.{ℕ, zero, suc, Option, Some, None, ◌+◌, ◌-◌, List, [], ◌∷◌, ◌++◌, cond, ltb, length}
use Rattle.cursor.specs.Cursor.{mark_at, figure_at, on_some}
use Rattle.cursor.specs.declared.Cursor.{Cursor}
use Rattle.frame.specs.declared.Span.{Span}

-- "Numbers have 1 to 10 digits and are at most 4,294,967,295;"
unfoldable pub number_at : List ℕ → ℕ → Option (ℕ × Cursor)
number_at s at = figure_at s at 10 4294967295

-- "lines end in LF;"
unfoldable pub number_line : List ℕ → ℕ → Option (ℕ × Cursor)
number_line s at =
    on_some (number_at s at) None λ (n, p).
    on_some (mark_at s p.at 10) None λ q.
    Some (n, q)

abbrev span : ℕ → ℕ → Span
span from end = record { from = from; end = end }

-- "texts (length line, then bytes)"
unfoldable pub text_at : List ℕ → ℕ → Option Span
text_at s at =
    on_some (number_line s at) None λ (n, p).
    cond (ltb (length s - p.at) n) None (Some (span p.at (p.at + n)))

-- k numbers more, each behind the byte b, after those that were read
unfoldable pub numbers_from : ℕ → List ℕ → ℕ → ℕ → List ℕ → Option (List ℕ × Cursor)
numbers_from zero s at b figures = Some (figures, record { at = at })
numbers_from (suc k) s at b figures =
    on_some (mark_at s at b) None λ p.
    on_some (number_at s p.at) None λ (n, q).
    numbers_from k s q.at b (figures ++ (n ∷ []))

-- how many numbers a row has at most
abbrev pub most_numbers : ℕ
most_numbers = 12

unfoldable pub numbers_at : List ℕ → ℕ → ℕ → ℕ → Option (List ℕ × Cursor)
numbers_at s at count b = cond (ltb most_numbers count) None (numbers_from count s at b [])

-- the row that a lent list holds, and the place after it, where one was read
abbrev pub row_of : List ℕ → Option Cursor → Option (List ℕ × Cursor)
row_of figures after = on_some after None λ p. Some (figures, p)
