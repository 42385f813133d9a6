-- The search for the end of a line, sixteen bytes at a time. Assumes nothing.
use Prim.Native.Nat.{ℕ, zero, suc, ◌+◌, ◌-◌, ◌≤◌, ◌<◌}
use mathlib.Core.Path.{◌≡◌, refl, ap, sym, ◌∙◌}
use mathlib.Core.List.{List}
use mathlib.Core.Bool.{Bool, true, false, false≢true}
use lib.ListN.{length, get_or, take, drop, length-drop}
use lib.Seq.{get_or-drop, get_or-take, length-take-le}
use native.Mathlib.Omega.{arith}
use native.Mathlib.Decide.{dec_lt}
use Rattle.cursor.specs.Bytes.{front}
use Rattle.sdp.specs.Line.{is_text}
use Rattle.reader.specs.Steps.{LastEnd}
use Rattle.reader.proofs.Endings.{Going, begin, goes_on, at_stop, text_high}
use Rattle.reader.proofs.Lines.{text_no_lf}

-- the scan of a line, sixteen bytes at a time: an LF stands before `last`, so that it ends
pub record Sighted (s : List ℕ) (from last at : ℕ) : Type 0 where
  pub end : LastEnd s last
  pub going : Going s from at
  pub before : at < last

pub sight : (s : List ℕ) (from last : ℕ) → from < last → LastEnd s last → Sighted s from last from
sight s from last h e = record { end = e; going = begin s from; before = h }

module _ (s : List ℕ) (from last at : ℕ) (g : Sighted s from last at) where
  last_lf : get_or s (last - 1) 0 ≡ 10
  last_lf = g.end.lf (last - 1) (omega (arith, g.before))

  pub sight_in : at < length s
  sight_in = omega (arith, g.before, g.end.within)

  pub sight_room : at + 16 ≤ last → at + 16 ≤ length s
  sight_room h = omega (arith, g.end.within)

  not_lf : (i : ℕ) → i < last → is_text (get_or s i 0) ≡ true → i + 1 < last
  not_lf i h e = by (dec_lt (i + 1) last) where
    by : Dec (i + 1 < last) → i + 1 < last
    by (yes k) = k
    by (no k) =
        let z : last - 1 ≡ i = omega (arith, k) in
        absurd (false≢true (sym text_no_lf ∙ ap is_text (sym (rw z at last_lf)) ∙ e))

  pub sight_on : (t : Bool) → t ≡ is_text (get_or s at 0) → t ≡ true → Sighted s from last (at + 1)
  sight_on t q e =
      record { end = g.end; going = goes_on s from at g.going sight_in t q e; before = not_lf at g.before (sym q ∙ e) }

  pub sight_stop : (t : Bool) → t ≡ is_text (get_or s at 0) → t ≡ false → at ≡ from + length (front is_text (drop from s))
  sight_stop t q e = at_stop s from at g.going sight_in t q e

-- many bytes on
hop : (s : List ℕ) (from last : ℕ) (n at : ℕ) → Sighted s from last at → ((i : ℕ) → i < n → 13 < get_or s (at + i) 0) → Sighted s from last (at + n)
hop s from last zero at g f = let z : at + 0 ≡ at = omega arith in rw z g
hop s from last (suc n) at g f =
    let z : at + suc n ≡ at + 1 + n = omega arith in
    let y : at + 0 ≡ at = omega arith in
    let b : 13 < get_or s at 0 = rw y at (f 0 (omega arith)) in
    rw z
    (hop s from last n (at + 1) (sight_on s from last at g true (text_high (get_or s at 0) b) refl)
    (λ i h. let x : at + 1 + i ≡ at + suc i = omega arith in rw x (f (suc i) (omega (arith, h)))))

pub sixteen_on : (s : List ℕ) (from last at : ℕ) → Sighted s from last at → at + 16 ≤ last → (w : List ℕ) → w ≡ take (at + 16 - at) (drop at s)
    → ((i : ℕ) → i < length w → 13 < get_or w i 0) → Sighted s from last (at + 16)
sixteen_on s from last at g h w q f =
    let m : at + 16 - at ≡ 16 = omega arith in
    let e : w ≡ take 16 (drop at s) = q ∙ rw m in
    hop s from last 16 at g
    (λ i k. let n : length w ≡ 16 = ap length e ∙ length-take-le 16 (drop at s) (omega (arith, h, g.end.within, length-drop at s)) in
    let z : get_or w i 0 ≡ get_or s (at + i) 0 = ap (λ (l : List ℕ). get_or l i 0) e ∙ get_or-take 16 (drop at s) i 0 k ∙ get_or-drop at s i 0 in
    rw z at (f i (omega (arith, n, k))))
