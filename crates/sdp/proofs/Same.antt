-- Two texts that say the same, read side by side. Assumes nothing.
use Rattle.std.specs.Prelude.{Result, Ok, Err}
use Rattle.sdp.specs.declared.fault.Fault.{Fault}
use Prim.Native.Nat.{ℕ, suc, ◌+◌, ◌≤◌}
use mathlib.Core.Path.{◌≡◌, refl, ap, sym, ◌∙◌}
use mathlib.Core.Logic.{◌≢◌, ◌⊎◌, inl, inr}
use mathlib.Core.List.{List, [], ◌∷◌, ◌++◌, map}
use mathlib.Core.Bool.{Bool, true, false, cond}
use lib.ListN.{length}
use lib.Dec.{eqb}
use native.Mathlib.Omega.{arith}
use borrow.Author.Tests.{ne_eqb}
use Rattle.cursor.specs.Bytes.{is_word, bytes}
use Rattle.sdp.specs.Line.{bare, is_line}
use Rattle.sdp.specs.Section.{no_media, no_section, closed, lacks}
use Rattle.sdp.specs.Text.{eight, refusal, lacking, good_unless9, Reading, in_session, step, on_step, read_from, read_lines}
use Rattle.sdp.specs.Default.{SaySame}
use Rattle.sdp.specs.declared.Text.{Text}
use Rattle.sdp.specs.declared.section.Section.{Section}
use Rattle.sdp.specs.declared.section.Session.{Session}

-- what a line says to both
abbrev pub BothTold : (Section → Section → Type 0) → Result Section Fault → Result Section Fault → Type 0
BothTold P (Ok s) (Ok u) = P s u
BothTold P (Err j) (Err k) = j ≡ k
BothTold P (Ok s) (Err k) = ⊥
BothTold P (Err j) (Ok u) = ⊥

-- what holds of both answers of one test holds of the test
pub on_both : {A : Type 0} (P : A → A → Type 0) (t : Bool) {a b c d : A} → P a c → P b d → P (cond t a b) (cond t c d)
on_both P true p q = p
on_both P false p q = q

-- their `m=` lines
abbrev pub Lines : Section → Section → Type 0
Lines s u = (1 ≤ s.line) × (1 ≤ u.line)

-- the sections that have ended
module _ (x y : Session) where
  abbrev pub Ended : Section → Section → Type 0
  Ended s u = (closed x s ≡ closed y u) × Lines s u

  abbrev pub AllEnded : List Section → List Section → Type 0
  AllEnded [] [] = Unit {0}
  AllEnded [] (u ∷ us) = ⊥
  AllEnded (s ∷ ss) [] = ⊥
  AllEnded (s ∷ ss) (u ∷ us) = Ended s u × AllEnded ss us

  pub ended_snoc : (ss us : List Section) (s u : Section) → AllEnded ss us → Ended s u → AllEnded (ss ++ (s ∷ [])) (us ++ (u ∷ []))
  ended_snoc [] [] s u h k = (k, tt)
  ended_snoc [] (v ∷ us) s u h k = absurd h
  ended_snoc (r ∷ ss) [] s u h k = absurd h
  ended_snoc (r ∷ ss) (v ∷ us) s u h k = (h.0, ended_snoc ss us s u h.1 k)

  pub ended_length : (ss us : List Section) → AllEnded ss us → length ss ≡ length us
  ended_length [] [] h = refl
  ended_length [] (u ∷ us) h = absurd h
  ended_length (s ∷ ss) [] h = absurd h
  ended_length (s ∷ ss) (u ∷ us) h = ap suc (ended_length ss us h.1)

  ended_media : (ss us : List Section) → AllEnded ss us → map (closed x) ss ≡ map (closed y) us
  ended_media [] [] h = refl
  ended_media [] (u ∷ us) h = absurd h
  ended_media (s ∷ ss) [] h = absurd h
  ended_media (s ∷ ss) (u ∷ us) h = rw (h.0.0, ended_media ss us h.1)

  ended_lacking : (ss us : List Section) → AllEnded ss us → eqb (lacking x ss) 0 ≡ eqb (lacking y us) 0
  unfolding lacking
  ended_lacking [] [] h = refl
  ended_lacking [] (u ∷ us) h = absurd h
  ended_lacking (s ∷ ss) [] h = absurd h
  ended_lacking (s ∷ ss) (u ∷ us) h = rw h.0.0 (by (lacks (closed y u)) (ended_lacking ss us h.1)) where
    by : (t : Bool) → eqb (lacking x ss) 0 ≡ eqb (lacking y us) 0 → eqb (cond t s.line (lacking x ss)) 0 ≡ eqb (cond t u.line (lacking y us)) 0
    by true k = ne_eqb s.line 0 (λ z. omega (arith, z, h.0.1.0)) ∙ sym (ne_eqb u.line 0 (λ z. omega (arith, z, h.0.1.1)))
    by false k = k

  pub ended_same : (ss us : List Section) → AllEnded ss us → SaySame (good_unless9 x ss) (good_unless9 y us)
  ended_same ss us h =
      rw (ended_lacking ss us h)
      (on_both SaySame (eqb (lacking y us) 0)
      (record { refusal = refl; count = ended_length ss us h; media = ap (eight no_media) (ended_media ss us h) })
      (record { refusal = refl; count = refl; media = refl }))

-- refused with j, or the same is said
abbrev pub Or : ℕ → Text → Text → Type 0
Or j x y = (x.refusal ≡ j) ⊎ SaySame x y

pub refused_same : (j k n m : ℕ) → Or j (refusal k n) (refusal k m)
refused_same j k n m = inr (record { refusal = refl; count = refl; media = refl })

-- not refused with j: the same is said
pub same_but : (j : ℕ) (x y : Text) → Or j x y → x.refusal ≢ j → SaySame x y
same_but j x y (inl e) k = absurd (k e)
same_but j x y (inr h) k = h

-- a line with more after it
pub reads_next : (n at : ℕ) (p : List ℕ) (ys : List (List ℕ)) (here : Reading) (z : List ℕ) (zs : List (List ℕ)) → ys ≡ z ∷ zs
    → read_from n at (p ∷ ys) here
    ≡ cond (is_line (bare p)) (on_step (step n at (bare p) here) (λ k. refusal k n) λ next. read_from (n + 1) (at + length p + 1) ys next) (refusal 2 n)
unfolding read_from
reads_next n at p ys here z zs e = rw e

pub lines_next : (p : List ℕ) (ys : List (List ℕ)) (z : List ℕ) (zs : List (List ℕ)) → ys ≡ z ∷ zs
    → read_lines (p ∷ ys) ≡ cond (is_word (bytes "v=0") (bare p)) (read_from 2 (length p + 1) ys (in_session no_section)) (refusal 2 1)
unfolding read_lines
lines_next p ys z zs e = rw e
