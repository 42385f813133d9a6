-- A line that was found, and the parts of the text from there: what the definition of a text goes by. Assumes nothing.
use Prim.Native.Nat.{ℕ, zero, suc, ◌+◌, ◌-◌, ◌≤◌, ◌<◌}
use Rattle.std.specs.Prelude.{Option, Some, None}
use mathlib.Core.Path.{◌≡◌, refl, ap, sym, ◌∙◌}
use mathlib.Core.List.{List, [], ◌∷◌}
use mathlib.Core.Bool.{Bool, true, false, cond, false≢true}
use lib.ListN.{length, take, drop, drop_of_length-le}
use lib.Seq.{drop-drop, take-take}
use lib.Dec.{eqb}
use native.Mathlib.Omega.{arith}
use native.Mathlib.Decide.{dec_lt}
use borrow.Author.Tests.{lt-ltb, le-ltb}
use Rattle.cursor.specs.Bytes.{front, all, is_empty, is_word, split, bytes}
use Rattle.cursor.specs.Cursor.{other}
use Rattle.cursor.specs.Parts.{part}
use Rattle.cursor.proofs.Parts.{clash, empty_some}
use Rattle.cursor.proofs.Words.{word_is}
use Rattle.cursor.proofs.Split.{front_take, split_front, split_more, split_end}
use Rattle.sdp.specs.Line.{is_text, is_letter, bare, is_line, letter, value}
use Rattle.reader.specs.Steps.{line_of, line_at, read_on}
use Rattle.sdp.specs.Section.{no_section}
use Rattle.sdp.specs.Text.{Reading, in_session, refusal, whole, step, on_step, read_from, read_lines, read_text}
use Rattle.sdp.specs.declared.Text.{Text}
use Rattle.reader.specs.declared.line.Line.{Line}

-- `bare` gives the front of what stands before the LF
bare_front : (p : List ℕ) → bare p ≡ take (length (bare p)) p
unfolding bare
bare_front [] = refl
bare_front (b ∷ []) = by (eqb b 13) where
  by : (t : Bool) → cond t [] (b ∷ []) ≡ take (length (cond t [] (b ∷ []))) (b ∷ [])
  by true = refl
  by false = refl
bare_front (b ∷ c ∷ l) = ap (λ (x : List ℕ). b ∷ x) (bare_front (c ∷ l))

bare_length : (p : List ℕ) → length (bare p) ≤ length p
unfolding bare
bare_length [] = omega arith
bare_length (b ∷ []) = by (eqb b 13) where
  by : (t : Bool) → length (cond t [] (b ∷ [])) ≤ 1
  by true = omega arith
  by false = omega arith
bare_length (b ∷ c ∷ l) = omega (arith, bare_length (c ∷ l))

line_length : (l : List ℕ) → is_line l ≡ true → 2 ≤ length l
unfolding is_line
line_length [] h = absurd (false≢true h)
line_length (a ∷ []) h = absurd (false≢true h)
line_length (a ∷ b ∷ l) h = omega arith

drop_two : (n : ℕ) (l : List ℕ) → drop 2 (take (suc (suc n)) l) ≡ take n (drop 2 l)
drop_two zero [] = refl
drop_two (suc n) [] = refl
drop_two zero (a ∷ []) = refl
drop_two (suc n) (a ∷ []) = refl
drop_two n (a ∷ b ∷ l) = refl

-- what a good line is: the part p before its LF, without its CR
pub record Found (s : List ℕ) (at : ℕ) (l : Line) : Type 0 where
  pub p : List ℕ
  pub form : is_line (bare p) ≡ true
  pub letters : l.letter ≡ letter (bare p)
  pub ends : l.end ≡ at + length (bare p)
  pub nexts : l.next ≡ at + length p + 1
  pub parts : split 10 (drop at s) ≡ p ∷ split 10 (drop l.next s)
  pub values : part s (at + 2) l.end ≡ value (bare p)
  pub bytes : bare p ≡ take (length (bare p)) (drop at s)
  pub long : at + 2 ≤ l.end
  pub later : l.end < l.next
  pub inside : l.next ≤ length s

module _ (s : List ℕ) (at : ℕ) where
  abbrev before : List ℕ
  before = front (other 10) (drop at s)

  pub found : (m : Option Line) (l : Line) → m ≡ line_at s at → m ≡ Some l → Found s at l
  unfolding line_at line_of
  found m l h k = by (dec_lt (at + length before) (length s)) (sym h ∙ k) where
    of : (t : Bool) → is_line (bare before) ≡ t → at + length before < length s
        → cond t (Some (record { letter = letter (bare before); end = at + length (bare before); next = at + length before + 1 })) None ≡ Some l → Found s at l
    of false i j q = clash (cc)
    of true i j q =
        let w : ◌≡◌ {A = Line} (record { letter = letter (bare before); end = at + length (bare before); next = at + length before + 1 }) l = cc in
        let x : l.letter ≡ letter (bare before) = sym (ap (λ (l : Line). l.letter) w) in
        let y : l.end ≡ at + length (bare before) = sym (ap (λ (l : Line). l.end) w) in
        let z : l.next ≡ at + length before + 1 = sym (ap (λ (l : Line). l.next) w) in
        let two = line_length (bare before) i in
        let short = bare_length before in
        let n : length (bare before) ≡ suc (suc (l.end - (at + 2))) = omega (arith, y, two) in
        let b : bare before ≡ take (length (bare before)) (drop at s) =
        bare_front before ∙ ap (take (length (bare before))) (front_take (other 10) (drop at s)) ∙ take-take (length (bare before)) (length before) (drop at s) short in
        let v : value (bare before) ≡ part s (at + 2) l.end =
        ap (drop 2) (b ∙ ap (λ (i : ℕ). take i (drop at s)) n) ∙ drop_two (l.end - (at + 2)) (drop at s) ∙ ap (take (l.end - (at + 2))) (drop-drop 2 at s) in
        record {
          p = before;
          form = i;
          letters = x;
          ends = y;
          nexts = z;
          parts = split_more 10 s at (at + length before) refl j ∙ rw z;
          values = sym v;
          bytes = b;
          long = omega (arith, y, two);
          later = omega (arith, y, z, short);
          inside = omega (arith, z, j);
        }

    by : Dec (at + length before < length s) → line_of at (split 10 (drop at s)) ≡ Some l → Found s at l
    by (yes j) q =
        of (is_line (bare before)) refl j
        (rw (split_more 10 s at (at + length before) refl j ∙ ap (λ (l : List (List ℕ)). before ∷ l) (split_front 10 (drop (at + length before + 1) s))) at q)
    by (no j) q = clash (cc (rw (split_end 10 s at (at + length before) refl (omega (arith, j))) at q))

  -- no good line: the end of the text, or a faulty line
  module _ (n : ℕ) (here : Reading) where
    pub at_end : length s ≤ at → read_from n at (split 10 (drop at s)) here ≡ whole here
    unfolding read_from split is_empty
    at_end h = rw (drop_of_length-le s h)

    pub bad_line : (m : Option Line) → m ≡ line_at s at → m ≡ None → at < length s → read_from n at (split 10 (drop at s)) here ≡ refusal 2 n
    unfolding read_from line_at line_of
    bad_line m h k i = by (dec_lt (at + length before) (length s)) (sym h ∙ k) where
      of : (t : Bool) (g : Option Line) (x : Text) → (g ≡ None → ⊥) → cond t g None ≡ None → cond t x (refusal 2 n) ≡ refusal 2 n
      of true g x z q = absurd (z q)
      of false g x z q = refl

      by : Dec (at + length before < length s) → line_of at (split 10 (drop at s)) ≡ None → read_from n at (split 10 (drop at s)) here ≡ refusal 2 n
      by (yes j) q =
          let r = split_more 10 s at (at + length before) refl j ∙ ap (λ (l : List (List ℕ)). before ∷ l) (split_front 10 (drop (at + length before + 1) s)) in
          rw r (of (is_line (bare before)) _ _ (λ z. clash (cc)) (rw r at q))
      by (no j) q =
          let x : length before ≡ 0 → ⊥ = (λ z. omega (arith, z, j)) in
          rw (split_end 10 s at (at + length before) refl (omega (arith, j)), empty_some before x)

-- a good line: the definition takes its step
module _ (s : List ℕ) (at n : ℕ) (l : Line) (here : Reading) (f : Found s at l) where
  pub stepped : read_from n at (split 10 (drop at s)) here
      ≡ on_step (step n at (bare f.p) here) (λ k. refusal k n) (λ h. read_from (n + 1) l.next (split 10 (drop l.next s)) h)
  unfolding read_from
  stepped =
      ap (λ (l : List (List ℕ)). read_from n at l here) f.parts ∙ by (split 10 (drop l.next s)) (split_front 10 (drop l.next s))
      ∙ ap (λ (i : ℕ). on_step (step n at (bare f.p) here) (λ k. refusal k n) (λ h. read_from (n + 1) i (split 10 (drop l.next s)) h)) (sym f.nexts) where
        by : (l : List (List ℕ)) {x : List ℕ} {xs : List (List ℕ)} → l ≡ x ∷ xs
            → read_from n at (f.p ∷ l) here
            ≡ on_step (step n at (bare f.p) here) (λ k. refusal k n) (λ h. read_from (n + 1) (at + length f.p + 1) l h)
        by [] q = clash (cc)
        by (y ∷ ys) q = rw f.form

-- line 1
module _ (t : List ℕ) where
  pub too_long : 4096 < length t → refusal 1 0 ≡ read_text t
  unfolding read_text
  too_long h = rw (lt-ltb 4096 (length t) h)

  module _ (short : length t ≤ 4096) where
    told : (r : Text) → r ≡ read_lines (split 10 t) → r ≡ read_text t
    unfolding read_text
    told r h = h ∙ rw (le-ltb 4096 (length t) short)

    -- `v=0` has the form of a line
    version_line : (l : List ℕ) → is_word (bytes "v=0") l ≡ true → is_line l ≡ true
    unfolding is_line is_letter is_text all
    version_line l h = rw (word_is (bytes "v=0") l h)

    pub no_line : (m : Option Line) → m ≡ line_at t 0 → m ≡ None → refusal 2 1 ≡ read_text t
    unfolding line_at line_of read_lines
    no_line m h k = told _ (by (split 10 t) (sym h ∙ k)) where
      first : (p : List ℕ) (a b : Bool) (g : Option Line) (x : Text) → is_line (bare p) ≡ a → is_word (bytes "v=0") (bare p) ≡ b → (g ≡ None → ⊥)
          → cond a g None ≡ None → refusal 2 1 ≡ cond b x (refusal 2 1)
      first p true b g x i j z q = absurd (z q)
      first p false true g x i j z q = absurd (false≢true (sym i ∙ version_line (bare p) j))
      first p false false g x i j z q = refl

      by : (l : List (List ℕ)) → line_of 0 l ≡ None → refusal 2 1 ≡ read_lines l
      by [] q = refl
      by (p ∷ []) q = refl
      by (p ∷ p' ∷ ps) q = first p (is_line (bare p)) (is_word (bytes "v=0") (bare p)) _ _ refl refl (λ z. clash (cc)) q

    module _ (l : Line) (f : Found t 0 l) where
      first_is : (r : Text) → r ≡ cond (is_word (bytes "v=0") (take l.end t)) (read_on t l.next) (refusal 2 1) → r ≡ read_text t
      unfolding read_lines
      first_is r h =
          let m : l.next ≡ length f.p + 1 = omega (arith, f.nexts) in
          told r (h ∙ rw first_bytes (by (split 10 (drop l.next t)) (split_front 10 (drop l.next t)) m ∙ sym (ap read_lines f.parts))) where
            first_bytes : take l.end t ≡ bare f.p
            first_bytes = let n : l.end ≡ length (bare f.p) = omega (arith, f.ends) in sym (f.bytes ∙ rw (← n))

            by : (ps : List (List ℕ)) {x : List ℕ} {xs : List (List ℕ)} → ps ≡ x ∷ xs → l.next ≡ length f.p + 1
                → cond (is_word (bytes "v=0") (bare f.p)) (read_from 2 l.next ps (in_session no_section)) (refusal 2 1) ≡ read_lines (f.p ∷ ps)
            by [] q m = clash (cc)
            by (y ∷ ys) q m = rw m

      module _ (b : Bool) (hb : b ≡ is_word (bytes "v=0") (take l.end t)) where
        pub not_version : b ≡ false → refusal 2 1 ≡ read_text t
        not_version q = first_is _ (rw (← hb, q))

        pub versioned : b ≡ true → (r : Text) → r ≡ read_on t l.next → r ≡ read_text t
        versioned q r hr = first_is r (hr ∙ rw (← hb, q))
