-- The amount of a `b=` line: what the cursor reads is what the definition says of the bytes after the colon. Assumes nothing.
use Rattle.std.specs.Prelude.{Option, Some, None}
use Rattle.cursor.specs.declared.Cursor.{Cursor}
use Prim.Native.Nat.{ℕ, ◌^◌, ◌≤◌, ◌<◌}
use mathlib.Core.Path.{◌≡◌, refl, ap, sym, ◌∙◌}
use mathlib.Core.List.{List}
use mathlib.Core.Bool.{Bool, true, false, cond}
use lib.ListN.{length, drop}
use lib.Dec.{eqb}
use native.Mathlib.Omega.{arith}
use borrow.Author.Tests.{eqb-true, eqb-false}
use mir.Syntax.{w32}
use mir.Val.{Fits}
use Rattle.cursor.specs.Cursor.{on_some, figure_at}
use Rattle.cursor.specs.Parts.{on_whole}
use Rattle.cursor.proofs.Parts.{clash}
use Rattle.cursor.proofs.Numbers.{figured, whole_bad, whole_is, whole_over}
use Rattle.sdp.specs.Bandwidth.{in_bits, bandwidth_of}
use Rattle.sdp.specs.declared.bandwidth.Rate.{Rate}
use Rattle.cursor.specs.Bytes.{starts_with, bytes}
use Rattle.cursor.proofs.Kit.{cond_yes, cond_no}
use Rattle.sdp.specs.declared.bandwidth.Rate.TheVariants as rate
use Rattle.lines.specs.Steps.{amount_of}

module _ (v : List ℕ) (at max : ℕ) (m : Option ℕ) (h : m ≡ amount_of v at max) where
  module _ {A : Type 0} (x bad : A) (f : ℕ → A) where
    pub amount_bad : m ≡ None → x ≡ bad → x ≡ on_whole 10 max (drop at v) bad f
    unfolding amount_of
    amount_bad e k = by (figure_at v at 10 max) refl (sym h ∙ e) where
      over : (n p : ℕ) (t : Bool) → eqb p (length v) ≡ t → cond t (Some n) None ≡ None → p ≡ length v → ⊥
      over n p true q z = clash (cc)
      over n p false q z = eqb-false p (length v) q

      by : (r : Option (ℕ × Cursor)) → r ≡ figure_at v at 10 max → on_some r None (λ (n, p). cond (eqb p.at (length v)) (Some n) None) ≡ None
          → x ≡ on_whole 10 max (drop at v) bad f
      by (Some (n, c)) q z = whole_over x bad 10 max f v at (Some (n, c)) q n c refl (over n c.at (eqb c.at (length v)) refl z) k
      by None q z = whole_bad x bad 10 max f v at None q (omega arith) refl k

    pub amount_is : (n : ℕ) → m ≡ Some n → x ≡ f n → x ≡ on_whole 10 max (drop at v) bad f
    unfolding amount_of
    amount_is n e k = by (figure_at v at 10 max) refl (sym h ∙ e) where
      ends : (n' p : ℕ) (t : Bool) → eqb p (length v) ≡ t → cond t (Some n') None ≡ Some n → (p ≡ length v) × (n ≡ n')
      ends n' p true q z = (eqb-true p (length v) q, cc)
      ends n' p false q z = clash (cc)

      by : (r : Option (ℕ × Cursor)) → r ≡ figure_at v at 10 max → on_some r None (λ (n, p). cond (eqb p.at (length v)) (Some n) None) ≡ Some n
          → x ≡ on_whole 10 max (drop at v) bad f
      by (Some (n', c)) q z =
          let w = ends n' c.at (eqb c.at (length v)) refl z in
          whole_is x bad 10 max f v at (Some (n', c)) q n' c refl w.0 (k ∙ ap f w.1)
      by None q z = clash (cc)

  pub amount_small : (n : ℕ) → m ≡ Some n → n ≤ max
  unfolding amount_of
  amount_small n e = by (figure_at v at 10 max) refl (sym h ∙ e) where
    same : (n' p : ℕ) (t : Bool) → cond t (Some n') None ≡ Some n → n ≡ n'
    same n' p true z = cc
    same n' p false z = clash (cc)

    by : (r : Option (ℕ × Cursor)) → r ≡ figure_at v at 10 max → on_some r None (λ (n, p). cond (eqb p.at (length v)) (Some n) None) ≡ Some n → n ≤ max
    by (Some (n', c)) q z =
        let f = figured v at 10 max (Some (n', c)) n' c q refl in
        omega (arith, f.small, same n' c.at (eqb c.at (length v)) z)
    by None q z = clash (cc)

  pub amount_fits : (n : ℕ) → m ≡ Some n → max < 2 ^ 32 → Fits w32 n
  amount_fits n e k = omega (arith, amount_small n e)

  -- AS, in bit/s
  pub bits_fit : (n b : ℕ) → m ≡ Some n → b ≡ in_bits n → max ≤ 4294967 → Fits w32 b
  bits_fit n b e q k = omega (arith, amount_small n e, q)

  pub amount_bits : (n b : ℕ) → m ≡ Some n → b ≡ in_bits n
      → Some (rate.As b) ≡ on_whole 10 max (drop at v) None (λ (n : ℕ). Some (rate.As (in_bits n)))
  amount_bits n b e q = amount_is (Some (rate.As b)) None (λ (n : ℕ). Some (rate.As (in_bits n))) n e (ap (λ (b : ℕ). Some (rate.As b)) q)

-- what a line with this modifier says
module _ (v : List ℕ) where
  pub as_said : (t : Bool) → t ≡ starts_with (bytes "AS:") v → t ≡ true → (x : Option Rate)
      → x ≡ on_whole 10 4294967 (drop 3 v) None (λ n. Some (rate.As (in_bits n))) → x ≡ bandwidth_of v
  unfolding bandwidth_of
  as_said t h0 e0 x k = cond_yes x _ _ _ t h0 e0 k

  pub tias_said : (t : Bool) → t ≡ starts_with (bytes "AS:") v → t ≡ false → (u : Bool) → u ≡ starts_with (bytes "TIAS:") v → u ≡ true → (x : Option Rate)
      → x ≡ on_whole 10 4294967295 (drop 5 v) None (λ n. Some (rate.Tias n)) → x ≡ bandwidth_of v
  unfolding bandwidth_of
  tias_said t h0 e0 u h1 e1 x k = cond_no x _ _ _ t h0 e0 (cond_yes x _ _ _ u h1 e1 k)

  pub rs_said : (t : Bool) → t ≡ starts_with (bytes "AS:") v → t ≡ false → (u : Bool) → u ≡ starts_with (bytes "TIAS:") v → u ≡ false → (w : Bool) → w ≡ starts_with (bytes "RS:") v → w ≡ true → (x : Option Rate)
      → x ≡ on_whole 10 4294967295 (drop 3 v) None (λ n. Some (rate.Rs n)) → x ≡ bandwidth_of v
  unfolding bandwidth_of
  rs_said t h0 e0 u h1 e1 w h2 e2 x k = cond_no x _ _ _ t h0 e0 (cond_no x _ _ _ u h1 e1 (cond_yes x _ _ _ w h2 e2 k))

  pub rr_said : (t : Bool) → t ≡ starts_with (bytes "AS:") v → t ≡ false → (u : Bool) → u ≡ starts_with (bytes "TIAS:") v → u ≡ false → (w : Bool) → w ≡ starts_with (bytes "RS:") v → w ≡ false → (y : Bool) → y ≡ starts_with (bytes "RR:") v → y ≡ true → (x : Option Rate)
      → x ≡ on_whole 10 4294967295 (drop 3 v) None (λ n. Some (rate.Rr n)) → x ≡ bandwidth_of v
  unfolding bandwidth_of
  rr_said t h0 e0 u h1 e1 w h2 e2 y h3 e3 x k = cond_no x _ _ _ t h0 e0 (cond_no x _ _ _ u h1 e1 (cond_no x _ _ _ w h2 e2 (cond_yes x _ _ _ y h3 e3 k)))

  pub other_said : (t : Bool) → t ≡ starts_with (bytes "AS:") v → t ≡ false → (u : Bool) → u ≡ starts_with (bytes "TIAS:") v → u ≡ false → (w : Bool) → w ≡ starts_with (bytes "RS:") v → w ≡ false → (y : Bool) → y ≡ starts_with (bytes "RR:") v → y ≡ false → Some rate.Other ≡ bandwidth_of v
  unfolding bandwidth_of
  other_said t h0 e0 u h1 e1 w h2 e2 y h3 e3 = cond_no _ _ _ _ t h0 e0 (cond_no _ _ _ _ u h1 e1 (cond_no _ _ _ _ w h2 e2 (cond_no _ _ _ _ y h3 e3 (refl))))
