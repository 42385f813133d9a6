-- The lines of the output are short. Assumes nothing.
use Prim.Native.Nat.{ℕ, suc, ◌+◌, ◌≤◌}
use mathlib.Core.List.{List, [], ◌∷◌, ◌++◌}
use mathlib.Core.Bool.{Bool, true, false, cond, ◌||◌}
use lib.Dec.{eqb}
use lib.IntN.{ℤ, pos, negsuc}
use lib.ListN.{length, length-append}
use native.Mathlib.Omega.{arith}
use Rattle.cursor.specs.Bytes.{bytes}
use Rattle.put.specs.Number.{decimal, signed}
use Rattle.put.proofs.Digits.{spell_length}
use Rattle.book.specs.declared.Reply.{Reply}
use Rattle.book.specs.declared.Row.{Row}
use Rattle.book.specs.Totals.{booked_up_all, booked_down_all}
use Rattle.callfile.specs.Ask.{letter_a, letter_x, letter_b}
use Rattle.evening.specs.Playing.{ended, tail_of, answer_line, calls_line, booked_line}

-- one text of at most m bytes, and one of at most r
longer : (m r : ℕ) (v w : List ℕ) → length v ≤ m → length w ≤ r → length (v ++ w) ≤ m + r
longer m r v w h k = omega (arith, length-append v w)

last : length (ended []) ≤ 1
unfolding ended
last = omega arith

-- a field of at most m bytes in front of the rest of a line
field : (m r : ℕ) (v : List ℕ) (fields : List (List ℕ)) → length v ≤ m → length (ended fields) ≤ r → length (ended (v ∷ fields)) ≤ m + r + 1
unfolding ended
field m r v fields h k = omega (arith, longer m r v (ended fields) h k)

figure : (r n : ℕ) (fields : List (List ℕ)) → length (ended fields) ≤ r → length (ended (decimal n ∷ fields)) ≤ 20 + r + 1
figure r n fields = field 20 r (decimal n) fields (spell_length 20 n)

signed_short : (z : ℤ) → length (signed z) ≤ 21
unfolding signed
signed_short (pos n) = omega (arith, spell_length 20 n)
signed_short (negsuc n) = omega (arith, spell_length 20 (suc n))

change : (r : ℕ) (z : ℤ) (fields : List (List ℕ)) → length (ended fields) ≤ r → length (ended (signed z ∷ fields)) ≤ 21 + r + 1
change r z fields = field 21 r (signed z) fields (signed_short z)

one_of : (t : Bool) (a b : List (List ℕ)) → length (ended a) ≤ 64 → length (ended b) ≤ 64 → length (ended (cond t a b)) ≤ 64
one_of true a b h k = h
one_of false a b h k = k

module _ (letter : ℕ) (reply : Reply) where
  changes_short : length (ended (signed reply.change.up ∷ signed reply.change.down ∷ [])) ≤ 64
  changes_short = omega (arith, change 23 reply.change.up (signed reply.change.down ∷ []) (change 1 reply.change.down [] last))

  granted_short : length (ended (decimal reply.class ∷ decimal reply.granted.up.0 ∷ decimal reply.granted.down.0 ∷ [])) ≤ 64
  granted_short =
      figure 43 reply.class (decimal reply.granted.up.0 ∷ decimal reply.granted.down.0 ∷ [])
      (figure 22 reply.granted.up.0 (decimal reply.granted.down.0 ∷ []) (figure 1 reply.granted.down.0 [] last))

  tail_short : length (ended (tail_of letter reply)) ≤ 64
  unfolding tail_of
  tail_short =
      one_of (eqb letter letter_a || eqb letter letter_x) (signed reply.change.up ∷ signed reply.change.down ∷ []) _ changes_short
      (one_of (eqb letter letter_b) (decimal reply.class ∷ decimal reply.granted.up.0 ∷ decimal reply.granted.down.0 ∷ []) [] granted_short
      (omega (arith, last)))

pub answer_short : (position letter : ℕ) (reply : Reply) → length (answer_line position letter reply) ≤ 128
unfolding answer_line
answer_short position letter reply =
    let fields = tail_of letter reply in
    longer 20 108 (decimal position) (ended ((letter ∷ []) ∷ decimal reply.refusal ∷ decimal reply.place ∷ fields)) (spell_length 20 position)
    (field 1 106 (letter ∷ []) (decimal reply.refusal ∷ decimal reply.place ∷ fields) (omega arith)
    (figure 85 reply.refusal (decimal reply.place ∷ fields) (figure 64 reply.place fields (tail_short letter reply))))

pub calls_short : (n : ℕ) → length (calls_line n) ≤ 32
unfolding calls_line
calls_short n = omega (arith, longer 5 22 (bytes "calls") (ended (decimal n ∷ [])) (omega arith) (figure 1 n [] last))

pub booked_short : (rows : List Row) → length (booked_line rows) ≤ 64
unfolding booked_line
booked_short rows =
    omega (
      arith,
      longer 6 43 (bytes "booked") (ended (decimal (booked_up_all rows) ∷ decimal (booked_down_all rows) ∷ [])) (omega arith)
          (figure 22 (booked_up_all rows) (decimal (booked_down_all rows) ∷ []) (figure 1 (booked_down_all rows) [] last)),
    )
