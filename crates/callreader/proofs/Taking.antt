-- The loop over the texts: what is left gives what the whole gives. Assumes nothing.
use Rattle.std.specs.Prelude.{Option, Some, None}
use Prim.Native.Nat.{ℕ, suc, ◌+◌, ◌-◌, ◌≤◌, ◌<◌}
use mathlib.Core.Path.{◌≡◌, ◌∙◌}
use mathlib.Core.List.{List}
use native.Mathlib.Omega.{arith}
use Rattle.cursor.specs.declared.Cursor.{Cursor}
use Rattle.frame.specs.Frame.{text_at}
use Rattle.frame.specs.declared.Span.{Span}
use Rattle.callfile.specs.declared.spans.Texts.{Texts}
use Rattle.callfile.specs.Sections.{no_texts, pushed, texts_from}

-- before text i
pub record Taking (s : List ℕ) (count from : ℕ) (texts : Texts) (at i : ℕ) : Type 0 where
  pub within : i ≤ count
  pub so_many : texts.count ≡ i
  pub same : texts_from (count - i) s at texts ≡ texts_from count s from no_texts

pub take_begin : (s : List ℕ) (count from : ℕ) (texts : Texts) → texts ≡ no_texts → Taking s count from texts from 0
take_begin s count from texts z =
    let e : count - 0 ≡ count = omega arith in
    rw z (record { within = omega arith; so_many = omega arith; same = rw e })

module _ (s : List ℕ) (count from : ℕ) (texts : Texts) (at i : ℕ) (k : Taking s count from texts at i) where
  left : i < count → count - i ≡ suc (count - (i + 1))
  left h = omega arith

  module _ (h : i < count) (m : Option Span) (p : m ≡ text_at s at) where
    pub take_bad : (r : Option (Texts × Cursor)) → r ≡ None → m ≡ None → r ≡ texts_from count s from no_texts
    unfolding texts_from
    take_bad r none q = none ∙ rw (left h, ← p, q) at k.same

    pub take_more : (span : Span) → m ≡ Some span → (more : Texts) → more ≡ pushed texts span → Taking s count from more span.end (i + 1)
    unfolding texts_from
    take_more span q more z =
        rw z (record { within = omega arith; so_many = omega (arith, k.so_many); same = rw (left h, ← p, q) at k.same })

  pub take_end : count ≤ i → Some (texts, record { at = at }) ≡ texts_from count s from no_texts
  unfolding texts_from
  take_end h = let e : count - i ≡ 0 = omega arith in rw e at k.same
