-- `Orderly` leaves nothing open: of one log it allows one list. Assumes nothing.
use Prim.Native.Nat.{ℕ}
use native.Mathlib.Omega.{arith}
use mathlib.Core.Path.{◌≡◌, refl, sym, ◌∙◌, ap, ap₂}
use mathlib.Core.Bool.{true, false}
use mathlib.Core.List.{List, ◌∷◌, cons≢nil}
use lib.Dec.{eqb}
use lib.ListN.{get_or, drop}
use borrow.Author.Tests.{eq-eqb}
use Rattle.flow.proofs.Tests.{by_test}
use Rattle.book.specs.Model.{session_of}
use Rattle.book.specs.Serial.{Entry}
use Rattle.book.specs.Left.{call_kind, offers_of, others, Whole, nothing, exchange, single, Orderly}
use Rattle.demands.proofs.Left.{others_skip, others_keep, offers_skip, offers_far, offers_own}

-- what is no offer, and the offers of each session, are the same in both
record Same (k k' : List Entry) : Type 0 where
  order : others k ≡ others k'
  offers : (s : ℕ) → offers_of s k ≡ offers_of s k'

-- The head and the rest of equal lists are equal.
heads : (e e' : Entry) (l l' : List Entry) → e ∷ l ≡ e' ∷ l' → e ≡ e'
heads e e' l l' q = ap (λ m. get_or m 0 e) q

rests : (e e' : Entry) (l l' : List Entry) → e ∷ l ≡ e' ∷ l' → l ≡ l'
rests e e' l l' q = ap (drop 1) q

module _ (o a : Entry) (l : List Entry) (is-o : call_kind o.call ≡ 0) (is_a : call_kind a.call ≡ 1) where
  exchange_others : others (o ∷ a ∷ l) ≡ a ∷ others l
  exchange_others = others_skip o (a ∷ l) is-o ∙ others_keep a l 1 is_a refl

  exchange_own : (s : ℕ) → eqb (session_of o.call) s ≡ true → offers_of s (o ∷ a ∷ l) ≡ o ∷ offers_of s l
  exchange_own s z = offers_own o (a ∷ l) s is-o z ∙ ap (λ r. o ∷ r) (offers_skip a l s 1 is_a refl)

  exchange_far : (s : ℕ) → eqb (session_of o.call) s ≡ false → offers_of s (o ∷ a ∷ l) ≡ offers_of s l
  exchange_far s z = offers_far o (a ∷ l) s z ∙ offers_skip a l s 1 is_a refl

  -- An exchange is no single call.
  exchange_single : {X : Type 0} (e : Entry) (l' : List Entry) → call_kind e.call ≡ 3 → others (o ∷ a ∷ l) ≡ others (e ∷ l') → X
  exchange_single e l' m q =
      let z = ap (λ (x : Entry). call_kind x.call) (heads a e (others l) (others l') (sym exchange_others ∙ q ∙ others_keep e l' 3 m refl)) in
      absurd (omega (arith, z, is_a, m))

-- Two exchanges that stand first in lists that have the same.
module _ (o a o' a' : Entry) (l l' : List Entry) (is-o : call_kind o.call ≡ 0) (is_a : call_kind a.call ≡ 1) (is-o' : call_kind o'.call ≡ 0) (is-a' : call_kind a'.call ≡ 1)
    (own : session_of o.call ≡ session_of a.call) (own' : session_of o'.call ≡ session_of a'.call) (same : Same (o ∷ a ∷ l) (o' ∷ a' ∷ l')) where
  answers_same : a ∷ others l ≡ a' ∷ others l'
  answers_same = sym (exchange_others o a l is-o is_a) ∙ same.order ∙ exchange_others o' a' l' is-o' is-a'

  answer_same : a ≡ a'
  answer_same = heads a a' (others l) (others l') answers_same

  session_same : session_of o'.call ≡ session_of o.call
  session_same = own' ∙ ap (λ (x : Entry). session_of x.call) (sym answer_same) ∙ sym own

  offers_same : (s : ℕ) → eqb (session_of o.call) s ≡ true → o ∷ offers_of s l ≡ o' ∷ offers_of s l'
  offers_same s z = sym (exchange_own o a l is-o is_a s z) ∙ same.offers s ∙ exchange_own o' a' l' is-o' is-a' s (rw session_same z)

  offer_same : o ≡ o'
  offer_same = let t = session_of o.call in heads o o' (offers_of t l) (offers_of t l') (offers_same t (eq-eqb t t refl))

  rest_same : Same l l'
  rest_same = record { order = rests a a' (others l) (others l') answers_same; offers = by } where
    by : (s : ℕ) → offers_of s l ≡ offers_of s l'
    by s =
        by_test (eqb (session_of o.call) s) (λ z. rests o o' (offers_of s l) (offers_of s l') (offers_same s z))
        (λ z. sym (exchange_far o a l is-o is_a s z) ∙ same.offers s ∙ exchange_far o' a' l' is-o' is-a' s (rw session_same z))

-- Two single calls.
module _ (e e' : Entry) (l l' : List Entry) (is-e : call_kind e.call ≡ 3) (is-e' : call_kind e'.call ≡ 3) (same : Same (e ∷ l) (e' ∷ l')) where
  singles_same : e ∷ others l ≡ e' ∷ others l'
  singles_same = sym (others_keep e l 3 is-e refl) ∙ same.order ∙ others_keep e' l' 3 is-e' refl

  after_same : Same l l'
  after_same =
      record {
        order = rests e e' (others l) (others l') singles_same;
        offers = λ s. sym (offers_skip e l s 3 is-e refl) ∙ same.offers s ∙ offers_skip e' l' s 3 is-e' refl;
      }

-- Lists of whole exchanges and single calls that have the same are the same.
same_whole : {k k' : List Entry} → Whole k → Whole k' → Same k k' → k ≡ k'
same_whole nothing nothing s = refl
same_whole nothing (exchange o a l i j h w) s = absurd (cons≢nil (sym (s.order ∙ exchange_others o a l i j)))
same_whole nothing (single e l m w) s = absurd (cons≢nil (sym (s.order ∙ others_keep e l 3 m refl)))
same_whole (exchange o a l i j h w) nothing s = absurd (cons≢nil (sym (exchange_others o a l i j) ∙ s.order))
same_whole (single e l m w) nothing s = absurd (cons≢nil (sym (others_keep e l 3 m refl) ∙ s.order))
same_whole (exchange o a l i j h w) (single e l' m w') s = exchange_single o a l i j e l' m s.order
same_whole (single e l' m w') (exchange o a l i j h w) s = exchange_single o a l i j e l' m (sym s.order)
same_whole (single e l m w) (single e' l' m' w') s =
    ap₂ (λ x r. x ∷ r) (heads e e' (others l) (others l') (singles_same e e' l l' m m' s)) (same_whole w w' (after_same e e' l l' m m' s))
same_whole (exchange o a l i j h w) (exchange o' a' l' i' j' h' w') s =
    ap₂ (λ x r. x ∷ r) (offer_same o a o' a' l l' i j i' j' h h' s)
    (ap₂ (λ x r. x ∷ r) (answer_same o a o' a' l l' i j i' j' h h' s) (same_whole w w' (rest_same o a o' a' l l' i j i' j' h h' s)))

-- Two lists that keep of a log what is left, in that order, are the same.
pub orderly_one : (log k k' : List Entry) → Orderly log k → Orderly log k' → k ≡ k'
orderly_one log k k' p p' = same_whole p.whole p'.whole (record { order = p.order ∙ sym p'.order; offers = λ s. p.offers s ∙ sym (p'.offers s) })
