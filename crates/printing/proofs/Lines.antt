-- The lines of the output, put field by field. Assumes nothing.
use Prim.Native.Nat.{ℕ}
use mathlib.Core.Path.{◌≡◌, refl, ap, ◌∙◌}
use mathlib.Core.List.{List, [], ◌∷◌, ◌++◌, map, append_assoc}
use mathlib.Core.Bool.{Bool, true, false, ◌||◌}
use mathlib.Core.Logic.{◌⊎◌, inl, inr}
use lib.Dec.{eqb}
use lib.IntN.{ℤ}
use mir.Syntax.{w64}
use mir.Val.{SFits, to_z, of_z}
use mir.ValLaws.{to_z-of_z}
use borrow.Author.Tests.{eq-eqb, ne_eqb}
use Rattle.std.specs.List.{flat_map}
use Rattle.cursor.specs.Bytes.{bytes}
use Rattle.put.specs.declared.Buffer.{Buffer}
use Rattle.put.specs.Put.{Takes}
use Rattle.put.specs.Number.{decimal, signed}
use Rattle.put.proofs.Taking.{take_then}
use Rattle.book.specs.declared.Reply.{Reply}
use Rattle.callfile.specs.Ask.{lf, space, letter_a, letter_x, letter_b}
use Rattle.evening.specs.Playing.{ended, tail_of, answer_line, calls_line}

-- numbers with a space before each, in front of the rest of a line
module _ {N : Type 0} (text : N → List ℕ) where
  before : (l : List N) (fields : List (List ℕ)) → flat_map (λ n. 32 ∷ text n) l ++ ended fields ≡ ended (map text l ++ fields)
  unfolding ended
  before [] fields = refl
  before (n ∷ l) fields =
      ap (λ (w : List ℕ). 32 ∷ w) (append_assoc (text n) (flat_map (λ n. 32 ∷ text n) l) (ended fields) ∙ ap (λ (w : List ℕ). text n ++ w) (before l fields))

  pub rest_takes : {a b c : Buffer} (l : List N) (fields : List (List ℕ)) → Takes a (flat_map (λ n. 32 ∷ text n) l) b → Takes b (ended fields) c
      → Takes a (ended (map text l ++ fields)) c
  rest_takes l fields p q = rw (before l fields) at (take_then p q)

abbrev bits : ℤ → ℤ
bits z = to_z w64 (of_z w64 z)

-- two numbers that are passed on go through their bits
pub changes_back : {a b : Buffer} (up down : ℤ) → SFits w64 up → SFits w64 down → Takes a (flat_map (λ z. 32 ∷ signed z) (bits up ∷ bits down ∷ [])) b
    → Takes a (flat_map (λ z. 32 ∷ signed z) (up ∷ down ∷ [])) b
changes_back up down f g q = rw (to_z-of_z w64 up f, to_z-of_z w64 down g) at q

pub line_ends : {a b : Buffer} → Takes a (lf ∷ []) b → Takes a (ended []) b
unfolding ended
line_ends p = p

-- `put_calls`
pub calls_takes : {a b c d : Buffer} (n : ℕ) → Takes a (bytes "calls") b → Takes b (flat_map (λ n. 32 ∷ decimal n) (n ∷ [])) c → Takes c (lf ∷ []) d
    → Takes a (calls_line n) d
unfolding calls_line
calls_takes n p q r = take_then p (rest_takes decimal (n ∷ []) [] q (line_ends r))

-- `put_booked`
pub booked_takes : {a b c d : Buffer} (up down : ℤ) → Takes a (bytes "booked") b → Takes b (flat_map (λ z. 32 ∷ signed z) (up ∷ down ∷ [])) c
    → Takes c (lf ∷ []) d → Takes a (bytes "booked" ++ ended (signed up ∷ signed down ∷ [])) d
booked_takes up down p q r = take_then p (rest_takes signed (up ∷ down ∷ []) [] q (line_ends r))

-- whose line has changes: that of an answer and of a close
abbrev Tells : ℕ → Bool
Tells letter = eqb letter letter_a || eqb letter letter_x

pub tells : (letter : ℕ) → (letter ≡ letter_a) ⊎ (letter ≡ letter_x) → Tells letter ≡ true
tells letter (inl e) = rw e refl
tells letter (inr e) = rw e refl

pub bears : (letter : ℕ) → letter ≡ letter_b → Tells letter ≡ false
bears letter e = rw e refl

pub silent : (letter : ℕ) → ((letter ≡ letter_a) ⊎ (letter ≡ letter_x) → ⊥) → Tells letter ≡ false
silent letter n = rw (ne_eqb letter letter_a (λ e. n (inl e)), ne_eqb letter letter_x (λ e. n (inr e))) refl

-- `put_tail`
module _ {b c : Buffer} (letter : ℕ) (reply : Reply) (r : Takes b (lf ∷ []) c) where
  pub tail_changes : {a : Buffer} → (eqb letter letter_a || eqb letter letter_x) ≡ true
      → Takes a (flat_map (λ z. 32 ∷ signed z) (reply.change.up ∷ reply.change.down ∷ [])) b → Takes a (ended (tail_of letter reply)) c
  unfolding tail_of
  tail_changes e q = rw e (rest_takes signed (reply.change.up ∷ reply.change.down ∷ []) [] q (line_ends r))

  module _ (n : (eqb letter letter_a || eqb letter letter_x) ≡ false) where
    pub tail_granted : {a : Buffer} → letter ≡ letter_b
        → Takes a (flat_map (λ n. 32 ∷ decimal n) (reply.class ∷ reply.granted.up.0 ∷ reply.granted.down.0 ∷ [])) b
        → Takes a (ended (tail_of letter reply)) c
    unfolding tail_of
    tail_granted e q = rw (n, eq-eqb letter letter_b e) (rest_takes decimal (reply.class ∷ reply.granted.up.0 ∷ reply.granted.down.0 ∷ []) [] q (line_ends r))

    pub tail_none : (letter ≡ letter_b → ⊥) → Takes b (ended (tail_of letter reply)) c
    unfolding tail_of
    tail_none e = rw (n, ne_eqb letter letter_b e) (line_ends r)

-- `put_answer`
pub answer_takes : {b₀ b₁ b₂ b₃ b₄ b₅ : Buffer} (position letter : ℕ) (reply : Reply) → Takes b₀ (decimal position) b₁ → Takes b₁ (space ∷ []) b₂
    → Takes b₂ (letter ∷ []) b₃ → Takes b₃ (flat_map (λ n. 32 ∷ decimal n) (reply.refusal ∷ reply.place ∷ [])) b₄
    → Takes b₄ (ended (tail_of letter reply)) b₅ → Takes b₀ (answer_line position letter reply) b₅
unfolding answer_line ended
answer_takes position letter reply p q r s t =
    take_then p (take_then q (take_then r (rest_takes decimal (reply.refusal ∷ reply.place ∷ []) (tail_of letter reply) s t)))
