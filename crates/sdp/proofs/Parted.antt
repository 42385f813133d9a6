-- Laws of a text cut at each LF: its parts, and its whole lines. Assumes nothing.
use Prim.Native.Nat.{ℕ, ◌-◌}
use Prim.Native.Char.{code}
use mathlib.Core.Path.{◌≡◌, refl, ap, ◌∙◌}
use mathlib.Core.Logic.{◌⊎◌, inl, inr}
use mathlib.Core.List.{List, [], ◌∷◌, ◌++◌, append_assoc}
use mathlib.Core.Bool.{Bool, true, false, cond, not, false≢true}
use lib.ListN.{length, take, drop, length-append}
use lib.Seq.{take_at, drop_at}
use lib.Dec.{eqb, ltb, leb}
use native.Mathlib.Omega.{arith}
use borrow.Author.Tests.{eqb-true, ltb-false, eq-eqb, ne_eqb}
use Rattle.cursor.specs.Bytes.{all, onto, split}
use Rattle.cursor.proofs.Parts.{clash}
use Rattle.cursor.proofs.Split.{split_front}
use Rattle.sdp.specs.Line.{nul, lf, cr, equals, bare, is_text, is_letter, is_line, letter}
use Rattle.sdp.specs.Spots.{WholeLine}
use Rattle.sdp.proofs.Tests.{and_left, both}

module _ (c : ℕ) where
  -- more than one part: the first ends at a mark
  pub record First (r p : List ℕ) (ps : List (List ℕ)) : Type 0 where
    pub rest : List ℕ
    pub is : r ≡ p ++ (c ∷ rest)
    pub alone : split c p ≡ p ∷ []
    pub parts : split c rest ≡ ps

  pub first : (r p q : List ℕ) (ps : List (List ℕ)) → split c r ≡ p ∷ q ∷ ps → First r p (q ∷ ps)
  unfolding split onto
  first [] p q ps h = clash (cc)
  first (b ∷ r) p q ps h = by (eqb b c) refl (split c r) refl (first r) h where
    by : (t : Bool) → eqb b c ≡ t → (xs : List (List ℕ)) → split c r ≡ xs
        → ((p q : List ℕ) (ps : List (List ℕ)) → split c r ≡ p ∷ q ∷ ps → First r p (q ∷ ps))
        → cond t ([] ∷ xs) (onto b xs) ≡ p ∷ q ∷ ps → First (b ∷ r) p (q ∷ ps)
    by true e xs k f h =
        let i : p ≡ [] = cc in
        let j : xs ≡ q ∷ ps = cc in
        record { rest = r; is = rw (i, eqb-true b c e); alone = rw i; parts = k ∙ j }
    by false e [] k f h = clash (cc)
    by false e (x ∷ []) k f h = clash (cc)
    by false e (x ∷ y ∷ ys) k f h =
        let i : p ≡ b ∷ x = cc in
        let j : y ∷ ys ≡ q ∷ ps = cc in
        let g = f x y ys k in
        record { rest = g.rest; is = rw i (ap (λ (l : List ℕ). b ∷ l) g.is); alone = rw (i, e, g.alone); parts = g.parts ∙ j }

  -- cut at a mark
  pub split_join : (x y : List ℕ) → split c (x ++ (c ∷ y)) ≡ split c x ++ split c y
  unfolding split onto
  split_join [] y = rw (eq-eqb c c refl)
  split_join (b ∷ x) y = by (eqb b c) (split c x) (split_front c x) (split_join x y) where
    by : (t : Bool) (xs : List (List ℕ)) {z : List ℕ} {zs : List (List ℕ)} → xs ≡ z ∷ zs → split c (x ++ (c ∷ y)) ≡ xs ++ split c y
        → cond t ([] ∷ split c (x ++ (c ∷ y))) (onto b (split c (x ++ (c ∷ y)))) ≡ cond t ([] ∷ xs) (onto b xs) ++ split c y
    by true xs k h = rw h
    by false [] k h = clash (cc)
    by false (x ∷ xs) k h = rw h

-- what stands before an LF: the line, and then its ending
pub record Ended (p r : List ℕ) : Type 0 where
  pub ending : List ℕ
  pub is : p ++ (lf ∷ r) ≡ bare p ++ (ending ++ r)
  pub ended : (ending ≡ lf ∷ []) ⊎ (ending ≡ cr ∷ lf ∷ [])

pub line_ends : (p r : List ℕ) → Ended p r
unfolding bare
line_ends [] r = record { ending = lf ∷ []; is = refl; ended = inl refl }
line_ends (b ∷ []) r = by (eqb b cr) refl where
  by : (t : Bool) → eqb b cr ≡ t → Ended (b ∷ []) r
  by true e = record { ending = cr ∷ lf ∷ []; is = rw (e, eqb-true b cr e); ended = inr refl }
  by false e = record { ending = lf ∷ []; is = rw e; ended = inl refl }
line_ends (b ∷ c ∷ l) r =
    let k = line_ends (c ∷ l) r in
    record { ending = k.ending; is = ap (λ (l : List ℕ). b ∷ l) k.is; ended = k.ended }

-- the letter of a line is that of its part
pub bare_letter : (p : List ℕ) → is_line (bare p) ≡ true → letter (bare p) ≡ letter p
unfolding bare is_line
bare_letter [] h = refl
bare_letter (b ∷ []) h = by (eqb b cr) h where
  by : (t : Bool) → is_line (cond t [] (b ∷ [])) ≡ true → letter (cond t [] (b ∷ [])) ≡ b
  by true h = absurd (false≢true h)
  by false h = refl
bare_letter (b ∷ c ∷ l) h = refl

-- a whole line is the part of the text from its start to before its end
pub line_part : (t : List ℕ) (start end : ℕ) (l : List ℕ) → WholeLine t start end l → take (end - start) (drop start t) ≡ l
line_part t start end l w =
    let n : end - start ≡ length l = omega (arith, w.ends) in
    let d : drop start t ≡ l ++ (w.ending ++ w.after) =
    rw (w.text, ← append_assoc w.before (lf ∷ []) (l ++ (w.ending ++ w.after)))
    (drop_at (w.before ++ (lf ∷ [])) (l ++ (w.ending ++ w.after)) start (omega (arith, w.starts, length-append w.before (lf ∷ [])))) in
    rw (n, d) (take_at l (w.ending ++ w.after) (length l) refl)

-- no mark c in l: it is one part
abbrev NoMark : ℕ → List ℕ → Type 0
NoMark c [] = Unit {0}
NoMark c (b ∷ l) = (eqb b c ≡ false) × NoMark c l

unmarked_alone : (c : ℕ) (l : List ℕ) → NoMark c l → split c l ≡ l ∷ []
unfolding split onto
unmarked_alone c [] h = refl
unmarked_alone c (b ∷ l) h = rw (h.0, unmarked_alone c l h.1)

unmarked_snoc : (c : ℕ) (l : List ℕ) (b : ℕ) → NoMark c l → eqb b c ≡ false → NoMark c (l ++ (b ∷ []))
unmarked_snoc c [] b h e = (e, tt)
unmarked_snoc c (a ∷ l) b h e = (h.0, unmarked_snoc c l b h.1 e)

-- a line has neither CR nor LF
abbrev Plain : List ℕ → Type 0
Plain l = NoMark lf l × NoMark cr l

plain_cons : (b : ℕ) (l : List ℕ) → (eqb b lf ≡ false) × (eqb b cr ≡ false) → Plain l → Plain (b ∷ l)
plain_cons b l e h = ((e.0, h.0), (e.1, h.1))

plain_text : (l : List ℕ) → all is_text l ≡ true → Plain l
unfolding all is_text
plain_text [] h = (tt, tt)
plain_text (b ∷ l) h = by (eqb b nul) (eqb b lf) (eqb b cr) refl refl h (plain_text l) where
  by : (x y z : Bool) → eqb b lf ≡ y → eqb b cr ≡ z → cond (cond x false (cond y false (not z))) (all is_text l) false ≡ true
      → (all is_text l ≡ true → Plain l) → Plain (b ∷ l)
  by true y z p q h f = absurd (false≢true h)
  by false true z p q h f = absurd (false≢true h)
  by false false true p q h f = absurd (false≢true h)
  by false false false p q h f = plain_cons b l (p, q) (f h)

plain_letter : (a : ℕ) → is_letter a ≡ true → (eqb a lf ≡ false) × (eqb a cr ≡ false)
unfolding is_letter
plain_letter a h = by (ltb a (code "a")) refl h where
  by : (t : Bool) → ltb a (code "a") ≡ t → cond t false (leb a (code "z")) ≡ true → (eqb a lf ≡ false) × (eqb a cr ≡ false)
  by true e h = absurd (false≢true h)
  by false e h = let k = ltb-false a (code "a") e in (ne_eqb a lf (λ z. omega (arith, k, z)), ne_eqb a cr (λ z. omega (arith, k, z)))

plain_equals : (b : ℕ) → eqb b equals ≡ true → (eqb b lf ≡ false) × (eqb b cr ≡ false)
plain_equals b e = let k = eqb-true b equals e in (ne_eqb b lf (λ z. omega (arith, k, z)), ne_eqb b cr (λ z. omega (arith, k, z)))

plain_line : (l : List ℕ) → is_line l ≡ true → Plain l
unfolding is_line
plain_line [] h = absurd (false≢true h)
plain_line (a ∷ []) h = absurd (false≢true h)
plain_line (a ∷ b ∷ l) h =
    let k = both (is_letter a) _ h in
    let i = both (eqb b equals) _ k.1 in
    plain_cons a (b ∷ l) (plain_letter a k.0) (plain_cons b l (plain_equals b i.0) (plain_text l (and_left (all is_text l) _ i.1)))

-- it stays as it is without its ending
bare_plain : (l : List ℕ) → NoMark cr l → bare l ≡ l
unfolding bare
bare_plain [] h = refl
bare_plain (b ∷ []) h = rw h.0
bare_plain (b ∷ c ∷ l) h = ap (λ (l : List ℕ). b ∷ l) (bare_plain (c ∷ l) h.1)

bare_cr : (l : List ℕ) → bare (l ++ (cr ∷ [])) ≡ l
unfolding bare
bare_cr [] = refl
bare_cr (b ∷ []) = refl
bare_cr (b ∷ c ∷ l) = ap (λ (l : List ℕ). b ∷ l) (bare_cr (c ∷ l))

-- a whole line is one of the parts of its text
pub record Among (t before l : List ℕ) : Type 0 where
  pub part : List ℕ
  pub later : List (List ℕ)
  pub parts : split lf t ≡ split lf before ++ (part ∷ later)
  pub is : bare part ≡ l

pub line_among : (t : List ℕ) (start end : ℕ) (l : List ℕ) (w : WholeLine t start end l) → Among t w.before l
line_among t start end l w = by w.ended where
  h : Plain l
  h = plain_line l w.line

  cut : (p : List ℕ) → NoMark lf p → t ≡ w.before ++ (lf ∷ (p ++ (lf ∷ w.after))) → split lf t ≡ split lf w.before ++ (p ∷ split lf w.after)
  cut p k e =
      rw e (split_join lf w.before (p ++ (lf ∷ w.after))
      ∙ ap (λ (ps : List (List ℕ)). split lf w.before ++ ps) (split_join lf p w.after ∙ rw (unmarked_alone lf p k)))

  by : (w.ending ≡ lf ∷ []) ⊎ (w.ending ≡ cr ∷ lf ∷ []) → Among t w.before l
  by (inl e) = record { part = l; later = split lf w.after; parts = cut l h.0 (w.text ∙ rw e); is = bare_plain l h.1 }
  by (inr e) =
      record {
        part = l ++ (cr ∷ []);
        later = split lf w.after;
        parts = cut (l ++ (cr ∷ [])) (unmarked_snoc lf l cr h.0 refl) (w.text ∙ rw (e, append_assoc l (cr ∷ []) (lf ∷ w.after)));
        is = bare_cr l;
      }
