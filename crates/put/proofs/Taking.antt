-- Texts that a lent buffer takes one after another. Assumes nothing.
use Prim.Native.Nat.{ℕ, ◌+◌, ◌<◌}
use mathlib.Core.Path.{◌≡◌, refl, ap, sym, ◌∙◌}
use mathlib.Core.List.{List, [], ◌∷◌, ◌++◌, append-nil}
use lib.ListN.{length, get_or, take}
use lib.Seq.{take-suc}
use native.Mathlib.Numerals.{add-one}
use Rattle.std.specs.List.{flat_map}
use Rattle.std.proofs.lemmas.Grind.{flat_map-append}
use Rattle.put.specs.declared.Buffer.{Buffer}
use Rattle.put.specs.Put.{Puts, Takes}
use Rattle.put.proofs.Texts.{put_none, put_then, puts_one}

pub take_then : {a b c : Buffer} {v w : List ℕ} → Takes a v b → Takes b w c → Takes a (v ++ w) c
take_then p q = record { puts = put_then p.puts q.puts; lent = p.lent ∙ q.lent }

pub take_none : {a : Buffer} → a.at < 18446744073709551616 → length a.out.now < 18446744073709551616 → Takes a [] a
take_none h k = record { puts = put_none h k; lent = refl }

-- one promise, one result
pub takes_one : {a b c : Buffer} {w : List ℕ} → Takes a w b → Takes a w c
    → (b.at ≡ c.at) × (b.out.now ≡ c.out.now) × (b.out.ghost_name ≡ c.out.ghost_name)
takes_one p q = let e = puts_one p.puts q.puts in (e.0, e.1, sym p.lent ∙ q.lent)

-- the loop of `word`: the first i bytes of w are taken
pub word_more : {a b c : Buffer} (w : List ℕ) (i : ℕ) → Takes a (take i w) b → i < length w → Takes b (get_or w i 0 ∷ []) c → Takes a (take (i + 1) w) c
word_more w i g h e = rw (add-one i, take-suc w i 0 h) (take_then g e)

-- the loop of `numbers`: the first i are taken
module _ {N : Type 0} (text : N → List ℕ) where
  numbers_next : (l : List N) (i : ℕ) (d : N) → i < length l → flat_map (λ n. 32 ∷ text n) (take (i + 1) l) ≡ flat_map (λ n. 32 ∷ text n) (take i l) ++ (32 ∷ text (get_or l i d))
  numbers_next l i d h =
      rw (add-one i, take-suc l i d h)
      (flat_map-append (λ n. 32 ∷ text n) (take i l) (get_or l i d ∷ [])
      ∙ ap (λ (w : List ℕ). flat_map (λ n. 32 ∷ text n) (take i l) ++ w) (append-nil (32 ∷ text (get_or l i d))))

  pub numbers_more : {a b c d : Buffer} (l : List N) (i : ℕ) (n : N) → Takes a (flat_map (λ n. 32 ∷ text n) (take i l)) b → i < length l → n ≡ get_or l i n
      → Takes b (32 ∷ []) c → Takes c (text n) d → Takes a (flat_map (λ n. 32 ∷ text n) (take (i + 1) l)) d
  numbers_more l i n g h e p q = rw (numbers_next l i n h, ← e) (take_then g (take_then p q))

-- a buffer that is lent back: what was put into it
pub puts_lent : {a b : Buffer} {w x : List ℕ} → Takes a w b → (a.out.ghost_name ≡ b.out.ghost_name → x ≡ b.out.now) → Puts a.out.now a.at w b.at x
puts_lent p back = rw (back p.lent) p.puts
