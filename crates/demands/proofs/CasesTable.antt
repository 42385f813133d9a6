-- The orders of the table, by computation: their numbers; and the lines of a call's text. Assumes nothing.
use Prim.Native.Nat.{ℕ}
use mathlib.Core.Path.{◌≡◌, refl}
use mathlib.Core.List.{List, [], ◌∷◌, map}
use Rattle.cursor.specs.Bytes.{bytes}
use Rattle.book.specs.Cases.{usual}
use Rattle.book.specs.Demand3.{fresh_book}
use Rattle.book.specs.Model.{Call, offers, answers, cancels, closes, asks, states}
use Rattle.book.proofs.Computing as Book
use Rattle.demands.specs.Table.{Refusal, order_of}
use Rattle.demands.specs.Place.{text_lines}

abbrev numbers : List Refusal → List ℕ
numbers [] = []
numbers (r ∷ rs) = r.number ∷ numbers rs

abbrev ordered : Call → List ℕ
ordered call = numbers (order_of usual (fresh_book 1) call)

-- a text that is refused with 2
abbrev text : List ℕ
text = bytes "v=1\n"

-- "Offer: 10, 19, 11, text, 14. Answer: 10, 19, 12, text, 15, 16. Cancel: 10, 19, 12. Close: 10, 19, 11, 13. Bearer: 10, 19, 13, 18, 17. Statement:
-- 10, 19, 13, 20."
pub orders :
    (ordered (offers 0 0 text) ≡ 10 ∷ 19 ∷ 11 ∷ 2 ∷ 14 ∷ [])
    × (ordered (answers 0 text) ≡ 10 ∷ 19 ∷ 12 ∷ 2 ∷ 15 ∷ 16 ∷ [])
    × (ordered (cancels 0) ≡ 10 ∷ 19 ∷ 12 ∷ [])
    × (ordered (closes 0) ≡ 10 ∷ 19 ∷ 11 ∷ 13 ∷ [])
    × (ordered (asks 0 (record { set = 1; class = 2; up = 0; down = 0 })) ≡ 10 ∷ 19 ∷ 13 ∷ 18 ∷ 17 ∷ [])
    × (ordered (states 0 0) ≡ 10 ∷ 19 ∷ 13 ∷ 20 ∷ [])
unfolding Book.computing
orders = (refl, refl, refl, refl, refl, refl)

-- a text of two lines, and calls that bring none
pub lines_brought : map text_lines
    (offers 0 0 (bytes "v=0\nx")
    ∷ answers 0 (bytes "v=0\nx")
    ∷ cancels 0
    ∷ closes 0
    ∷ asks 0 (record { set = 1; class = 2; up = 0; down = 0 })
    ∷ states 0 0
    ∷ [])
    ≡ 2 ∷ 2 ∷ 0 ∷ 0 ∷ 0 ∷ 0 ∷ []
unfolding Book.computing
lines_brought = refl
