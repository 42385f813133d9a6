-- The address of a `c=` line: what the cursor reads is what the definition says of the parts between the dots. Assumes nothing.
use Rattle.std.specs.Prelude.{Option, Some, None}
use Rattle.sdp.specs.declared.Address.{Address}
use Prim.Native.Nat.{ℕ, ◌+◌, ◌≤◌}
use mathlib.Core.Path.{◌≡◌, refl, ap, sym, ◌∙◌}
use mathlib.Core.List.{List, [], ◌∷◌}
use mathlib.Core.Bool.{Bool, true, false, cond}
use lib.ListN.{length, drop}
use lib.Dec.{eqb}
use native.Mathlib.Omega.{arith}
use borrow.Author.Tests.{eqb-true, eqb-false}
use Rattle.cursor.specs.Bytes.{split, starts_with, is_digit}
use Rattle.cursor.specs.Cursor.{figure_at, mark_at, word_at, on_some}
use Rattle.cursor.specs.Parts.{on_number}
use Rattle.cursor.specs.declared.Cursor.{Cursor}
use Rattle.cursor.proofs.Parts.{clash, found}
use Rattle.cursor.proofs.Numbers.{figured, fig_bad, fig_more, fig_last, fig_stop, fig_over}
use Rattle.sdp.specs.Connection.{joined, on_none, address_of, connection_of}
use Rattle.lines.specs.Steps.{dotted_at, address_at}

dot_no_digit : is_digit 46 ≡ false
unfolding is_digit
dot_no_digit = refl

-- what `dotted_at` and `word_at` find
abbrev dotted : ℕ → Cursor → Option (ℕ × Cursor)
dotted n q = Some (n, q)

abbrev with_dot : List ℕ → ℕ × Cursor → Option (ℕ × Cursor)
with_dot v (n, p) = on_some (mark_at v p.at 46) None (dotted n)

abbrev past_word : Option Cursor
past_word = Some (record { at = 0 + 7 })

-- a number with a dot after it, where a part more is wanted
module _ {A : Type 0} (bad : A) (f : ℕ → List (List ℕ) → A) (none : (n : ℕ) → f n [] ≡ bad) (v : List ℕ) (at : ℕ) where
  abbrev rest : ℕ × Cursor → A
  rest (n, p) = f n (split 46 (drop p.at v))

  dotted_part : on_some (dotted_at v at) bad rest ≡ on_number 3 255 (split 46 (drop at v)) bad f
  unfolding dotted_at
  dotted_part = by (figure_at v at 3 255) refl where
    then : (n : ℕ) (p : Cursor) → Some (n, p) ≡ figure_at v at 3 255 → (w : Option Cursor) → w ≡ mark_at v p.at 46
        → on_some (on_some w None (dotted n)) bad rest ≡ on_number 3 255 (split 46 (drop at v)) bad f
    then n p h (Some q) hw = fig_more _ bad 3 255 f 46 dot_no_digit v at (Some (n, p)) h n p refl (Some q) q hw refl refl
    then n p h None hw = fig_stop _ bad 3 255 f 46 dot_no_digit v at (Some (n, p)) h n p refl None hw refl none refl

    by : (r : Option (ℕ × Cursor)) → r ≡ figure_at v at 3 255
        → on_some (on_some r None (with_dot v)) bad rest
        ≡ on_number 3 255 (split 46 (drop at v)) bad f
    by (Some (n, p)) h = then n p h (mark_at v p.at 46) refl
    by None h = fig_bad _ bad 3 255 f 46 dot_no_digit v at None h (omega arith) refl refl

-- the last number, where nothing more is wanted
module _ (f : ℕ → Option Address) (v : List ℕ) (at : ℕ) where
  last_part : on_some (figure_at v at 3 255) None (λ (n, p). cond (eqb p.at (length v)) (f n) None)
      ≡ on_number 3 255 (split 46 (drop at v)) None (λ n r. on_none r (f n))
  last_part = by (figure_at v at 3 255) refl where
    then : (n : ℕ) (p : Cursor) → Some (n, p) ≡ figure_at v at 3 255 → (t : Bool) → eqb p.at (length v) ≡ t
        → cond t (f n) None ≡ on_number 3 255 (split 46 (drop at v)) None (λ n r. on_none r (f n))
    then n p h true e =
        fig_last _ None 3 255 (λ n r. on_none r (f n)) 46 dot_no_digit v at (Some (n, p)) h n p refl (eqb-true p.at (length v) e) refl
    then n p h false e =
        fig_over _ None 3 255 (λ n r. on_none r (f n)) 46 dot_no_digit v at (Some (n, p)) h n p refl (eqb-false p.at (length v) e) (λ n y r. refl) refl

    by : (r : Option (ℕ × Cursor)) → r ≡ figure_at v at 3 255
        → on_some r None (λ (n, p). cond (eqb p.at (length v)) (f n) None)
        ≡ on_number 3 255 (split 46 (drop at v)) None (λ n r. on_none r (f n))
    by (Some (n, p)) h = then n p h (eqb p.at (length v)) refl
    by None h = fig_bad _ None 3 255 (λ n r. on_none r (f n)) 46 dot_no_digit v at None h (omega arith) refl refl

-- four numbers
on_some_lem : {X A : Type 0} (r : Option X) (bad : A) (f g : X → A) → ((x : X) → f x ≡ g x) → on_some r bad f ≡ on_some r bad g
on_some_lem (Some x) bad f g h = h x
on_some_lem None bad f g h = refl

says : ℕ → ℕ → ℕ → ℕ → Option Address
says a b c d = Some (record { known = 1; bits = joined a b c d })

pub address_is : (v : List ℕ) (at : ℕ) → address_at v at ≡ address_of (split 46 (drop at v))
unfolding address_at address_of says
address_is v p0 =
    on_some_lem (dotted_at v p0) None _ _
    (λ (a, p1).
    on_some_lem (dotted_at v p1.at) None _ _
    (λ (b, p2).
    on_some_lem (dotted_at v p2.at) None _ _ (λ (c, p3). last_part (λ d. says a b c d) v p3.at)
    ∙ dotted_part None (λ c r. on_number 3 255 r None (λ d r. on_none r (says a b c d))) (λ n. refl) v p2.at)
    ∙ dotted_part None
    (λ b r. on_number 3 255 r None (λ c r. on_number 3 255 r None (λ d r. on_none r (says a b c d))))
    (λ n. refl)
    v
    p1.at)
    ∙ dotted_part None
    (λ a r.
    on_number 3 255 r None
    (λ b r. on_number 3 255 r None (λ c r. on_number 3 255 r None (λ d r. on_none r (says a b c d)))))
    (λ n. refl)
    v
    p0

-- the numbers of an address are small
module _ (v : List ℕ) (at n : ℕ) (p : Cursor) (m : Option (ℕ × Cursor)) where
  pub number_small : m ≡ figure_at v at 3 255 → m ≡ Some (n, p) → n ≤ 255
  number_small h e = (figured v at 3 255 m n p h e).small

  pub dotted_small : m ≡ dotted_at v at → m ≡ Some (n, p) → n ≤ 255
  unfolding dotted_at
  dotted_small h e = by (figure_at v at 3 255) refl (sym h ∙ e) where
    moves : (n' : ℕ) (w : Option Cursor) → on_some w None (dotted n') ≡ Some (n, p) → n ≡ n'
    moves n' (Some q) z = ap (λ (t : ℕ × Cursor). t.0) (found z)
    moves n' None z = clash (cc)

    by : (r : Option (ℕ × Cursor)) → r ≡ figure_at v at 3 255 → on_some r None (with_dot v) ≡ Some (n, p) → n ≤ 255
    by (Some (n', c)) q z = omega (arith, (figured v at 3 255 (Some (n', c)) n' c q refl).small, moves n' (mark_at v c.at 46) z)
    by None q z = clash (cc)

-- `IN IP4 ` in front
module _ (v : List ℕ) (m : Option Cursor) where
  pub no_word : m ≡ word_at v 0 (73 ∷ 78 ∷ 32 ∷ 73 ∷ 80 ∷ 52 ∷ 32 ∷ []) → m ≡ None → None ≡ connection_of v
  unfolding word_at connection_of
  no_word h e = by (starts_with (73 ∷ 78 ∷ 32 ∷ 73 ∷ 80 ∷ 52 ∷ 32 ∷ []) v) (sym h ∙ e) where
    by : (t : Bool) → cond t past_word None ≡ None → None ≡ cond t (address_of (split 46 (drop 7 v))) None
    by true z = clash (cc)
    by false z = refl

  pub worded : (p : Cursor) (x : Option Address) → m ≡ word_at v 0 (73 ∷ 78 ∷ 32 ∷ 73 ∷ 80 ∷ 52 ∷ 32 ∷ []) → m ≡ Some p → x ≡ address_at v p.at → x ≡ connection_of v
  unfolding word_at connection_of
  worded p x h e k = by (starts_with (73 ∷ 78 ∷ 32 ∷ 73 ∷ 80 ∷ 52 ∷ 32 ∷ []) v) (sym h ∙ e) where
    by : (t : Bool) → cond t past_word None ≡ Some p → x ≡ cond t (address_of (split 46 (drop 7 v))) None
    by true z =
        let c : p ≡ record { at = 7 } = found z in
        k ∙ address_is v p.at ∙ ap (λ (q : Cursor). address_of (split 46 (drop q.at v))) c
    by false z = clash (cc)

pub joined_is : (n m : ℕ) → n ≡ m → ◌≡◌ {A = Option Address} (Some (record { known = 1; bits = n })) (Some (record { known = 1; bits = m }))
joined_is n m e = rw e
