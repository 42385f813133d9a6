-- The deciding line is one whole line of its text. Assumes nothing.
use Prim.Native.Nat.{ℕ, ◌-◌, ◌≤◌}
use native.Mathlib.Omega.{arith}
use mathlib.Core.Path.{◌≡◌, refl, ap, sym, ◌∙◌}
use mathlib.Core.List.{List}
use mathlib.Core.Bool.{Bool, true, false, cond, not, ◌||◌, false≢true}
use lib.ListN.{length, get_or}
use lib.Dec.{ltb, eqb}
use borrow.Author.Tests.{eqb-true, eqb-false, eq-eqb, ltb-false, not-false}
use Rattle.sdp.specs.Range.{Spotted}
use Rattle.sdp.specs.Section.{no_media, no_spot}
use Rattle.sdp.specs.Text.{read_text}
use Rattle.sdp.specs.Spots.{WholeLine, DirectionLineOf, own_line, session_line, Directed, by_line, by_none, Lined}
use Rattle.sdp.specs.declared.Media.{Media}
use Rattle.sdp.specs.declared.Spot.{Spot}
use Rattle.sdp.specs.declared.Text.{Text}
use Rattle.sdp.proofs.Said.{on_cond}
use Rattle.sdp.proofs.Ranges.{spots_within}
use Rattle.sdp.proofs.Parted.{line_part}
use Rattle.sdp.proofs.Lined.{spots_lined}
use Rattle.flow.specs.declared.Decision.{Decision}
use Rattle.flow.specs.declared.Fit.{Fit}
use Rattle.flow.specs.Fit.{said, fit_of}
use Rattle.flow.specs.Deciding.{line_at, refused_by, deciding_spot, deciding_at, decision_of, decision, part_of, deciding_line}
use Rattle.flow.specs.Deciding.{DecidedBy, offer_removes, answer_removes, offer_directs, answer_directs, answer_silent}
use Rattle.flow.proofs.Tests.{by_test, neither_left, neither_right}
use Rattle.flow.proofs.Ranges.{fit_says}

-- A component that is known is one of those of the texts.
pub known : (component count : ℕ) → (eqb component 0 || ltb count component) ≡ false → (1 ≤ component) × (component ≤ count)
known component count e =
    let q = eqb-false component 0 (neither_left (eqb component 0) (ltb count component) e) in
    (omega (arith, q), ltb-false count component (neither_right (eqb component 0) (ltb count component) e))

-- A part of one of two texts of so many bytes.
pub record Inside (offer answer : ℕ) (d : Decision) : Type 0 where
  pub ordered : d.start ≤ d.end
  pub in_offer : d.text ≡ 1 → d.end ≤ offer
  pub in_answer : (d.text ≡ 1 → ⊥) → d.end ≤ answer

-- A refusal's part is empty.
refused_inside : (m n number place failed : ℕ) → Inside m n (refused_by number place failed)
refused_inside m n number place failed = record { ordered = omega arith; in_offer = λ e. omega arith; in_answer = λ e. omega arith }

offer_inside : (m n start end : ℕ) → start ≤ end → end ≤ m → Inside m n (line_at 1 start end)
offer_inside m n start end h k = record { ordered = h; in_offer = λ e. k; in_answer = λ e. absurd (e refl) }

answer_inside : (m n start end : ℕ) → start ≤ end → end ≤ n → Inside m n (line_at 2 start end)
answer_inside m n start end h k = record { ordered = h; in_offer = λ e. absurd (omega (arith, e)); in_answer = λ e. k }

spot_inside : (m n : ℕ) (o a : Media) (s t : Spot) → Spotted m s → Spotted n t → Inside m n (deciding_spot o a s t)
unfolding deciding_spot
spot_inside m n o a s t h k =
    on_cond (Inside m n) (eqb o.port 0) (offer_inside m n s.start s.end (omega (arith, h.some)) h.end)
    (on_cond (Inside m n) (eqb a.port 0) (answer_inside m n t.start t.end (omega (arith, k.some)) k.end)
    (on_cond (Inside m n) (eqb o.direction 4) (offer_inside m n s.from s.to h.ordered h.to)
    (on_cond (Inside m n) (eqb t.to 0) (answer_inside m n t.start t.end (omega (arith, k.some)) k.end)
    (answer_inside m n t.from t.to k.ordered k.to))))

-- The deciding line lies within its text.
pub decision_inside : (offer answer : List ℕ) (component : ℕ) → Inside (length offer) (length answer) (decision offer answer component)
unfolding decision decision_of
decision_inside offer answer component =
    on_cond In (not (eqb o.refusal 0)) (refused_inside m n o.refusal o.place 1)
    (on_cond In (not (eqb a.refusal 0)) (refused_inside m n a.refusal a.place 2)
    (by_test (not (eqb (fit_of (said o) (said a)).refusal 0)) (λ e. rw e (refused_inside m n 15 (fit_of (said o) (said a)).place 0))
    (λ e. rw e (by_test (eqb component 0 || ltb o.count component) (λ t. rw t (refused_inside m n 10 0 0)) (λ t. rw t (at_spot e t)))))) where
      o : Text
      o = read_text offer

      a : Text
      a = read_text answer

      m : ℕ
      m = length offer

      n : ℕ
      n = length answer

      In : Decision → Type 0
      In = Inside m n

      at_spot : not (eqb (fit_of (said o) (said a)).refusal 0) ≡ false → (eqb component 0 || ltb o.count component) ≡ false → In (deciding_at o a (component - 1))
      at_spot e t =
          let k = known component o.count t in
          let f = fit_says (said o) (said a) (eqb-true (fit_of (said o) (said a)).refusal 0 (not-false (eqb (fit_of (said o) (said a)).refusal 0) e)) in
          spot_inside m n (get_or o.media (component - 1) no_media) (get_or a.media (component - 1) no_media) (get_or o.spots (component - 1) no_spot)
          (get_or a.spots (component - 1) no_spot) (spots_within offer (component - 1) (omega (arith, k))) (spots_within answer (component - 1) (omega (arith, k, f.0)))

-- The direction line of a media section is a whole line.
whole_direction : (t : List ℕ) (j : ℕ) (m : Media) (from to : ℕ) (l : List ℕ) → DirectionLineOf t j m from to l → WholeLine t from to l
whole_direction t j m from to l (own_line x) = x.whole
whole_direction t j m from to l (session_line n x) = x.whole

-- Of two media sections: the line handed back is the one that decides.
spot_decides : (offer answer : List ℕ) (j : ℕ) (o a : Media) (s t : Spot) → Lined offer j o s → Lined answer j a t
    → DecidedBy offer answer j o a (deciding_spot o a s t) (part_of offer answer (deciding_spot o a s t))
unfolding deciding_spot part_of
spot_decides offer answer j o a s t h k =
    by (eqb o.port 0) (eqb a.port 0) (eqb o.direction 4) (eqb t.to 0) refl refl refl refl h.direction k.direction where
      -- the bytes of a line that stands in the offer, or in the answer
      in_offer : (start end : ℕ) (l : List ℕ) → WholeLine offer start end l → part_of offer answer (line_at 1 start end) ≡ l
      in_offer start end l = line_part offer start end l

      in_answer : (start end : ℕ) (l : List ℕ) → WholeLine answer start end l → part_of offer answer (line_at 2 start end) ≡ l
      in_answer start end l = line_part answer start end l

      by : (p q i n : Bool) → eqb o.port 0 ≡ p → eqb a.port 0 ≡ q → eqb o.direction 4 ≡ i → eqb t.to 0 ≡ n
          → Directed offer j o s.from s.to → Directed answer j a t.from t.to
          → let d = cond p (line_at 1 s.start s.end) (cond q (line_at 2 t.start t.end) (cond i (line_at 1 s.from s.to)
          (cond n (line_at 2 t.start t.end) (line_at 2 t.from t.to)))) in
          DecidedBy offer answer j o a d (part_of offer answer d)
      by true q i n e f g z x y = rw (in_offer s.start s.end h.media.0 h.media.1.whole) (offer_removes (eqb-true _ _ e) refl h.media.1)
      by false true i n e f g z x y =
          rw (in_answer t.start t.end k.media.0 k.media.1.whole) (answer_removes (eqb-false _ _ e) (eqb-true _ _ f) refl k.media.1)
      by false false true n e f g z (by_line l x) y =
          rw (in_offer s.from s.to l (whole_direction offer j o s.from s.to l x)) (offer_directs (eqb-false _ _ e) (eqb-false _ _ f) (eqb-true _ _ g) refl x)
      by false false true n e f g z (by_none x _ _) y = absurd (omega (arith, eqb-true o.direction 4 g, x.means))
      by false false false true e f g z x (by_line l y) =
          let w = whole_direction answer j a t.from t.to l y in
          absurd (omega (arith, eqb-true t.to 0 z, w.starts, w.ends))
      by false false false true e f g z x (by_none y _ _) =
          rw (in_answer t.start t.end k.media.0 k.media.1.whole)
          (answer_silent (eqb-false _ _ e) (eqb-false _ _ f) (eqb-false _ _ g) y refl k.media.1)
      by false false false false e f g z x (by_line l y) =
          rw (in_answer t.from t.to l (whole_direction answer j a t.from t.to l y)) (answer_directs (eqb-false _ _ e) (eqb-false _ _ f) (eqb-false _ _ g) refl y)
      by false false false false e f g z x (by_none _ _ y) = absurd (eqb-false t.to 0 z y)

-- The deciding line is one whole line of the offer or of the answer, without its ending: the one that document 01 names.
pub decided_line : (offer answer : List ℕ) (component : ℕ) → (decision offer answer component).refusal ≡ 0
    → DecidedBy offer answer (component - 1) (get_or (read_text offer).media (component - 1) no_media) (get_or (read_text answer).media (component - 1) no_media)
    (decision offer answer component) (deciding_line offer answer component)
unfolding decision decision_of deciding_line
decided_line offer answer component =
    by (not (eqb o.refusal 0)) (not (eqb a.refusal 0)) (not (eqb f.refusal 0)) (eqb component 0 || ltb o.count component) refl refl refl refl where
      o : Text
      o = read_text offer

      a : Text
      a = read_text answer

      f : Fit
      f = fit_of (said o) (said a)

      j : ℕ
      j = component - 1

      -- a refusal has a number
      refused : (n : ℕ) {A : Type 0} → not (eqb n 0) ≡ true → n ≡ 0 → A
      refused n e z = absurd (false≢true (sym (ap not (eq-eqb n 0 z)) ∙ e))

      found : Bool → Bool → Bool → Bool → Decision
      found p q r s =
          cond p (refused_by o.refusal o.place 1) (cond q (refused_by a.refusal a.place 2)
          (cond r (refused_by 15 f.place 0) (cond s (refused_by 10 0 0) (deciding_at o a j))))

      by : (p q r s : Bool) → not (eqb o.refusal 0) ≡ p → not (eqb a.refusal 0) ≡ q → not (eqb f.refusal 0) ≡ r
          → (eqb component 0 || ltb o.count component) ≡ s → (found p q r s).refusal ≡ 0
          → DecidedBy offer answer j (get_or o.media j no_media) (get_or a.media j no_media) (found p q r s) (part_of offer answer (found p q r s))
      by true q r s e x y z h = refused o.refusal e h
      by false true r s e x y z h = refused a.refusal x h
      by false false true s e x y z h = absurd (omega (arith, h))
      by false false false true e x y z h = absurd (omega (arith, h))
      by false false false false e x y z h =
          let k = known component o.count z in
          let g = fit_says (said o) (said a) (eqb-true f.refusal 0 (not-false (eqb f.refusal 0) y)) in
          spot_decides offer answer j (get_or o.media j no_media) (get_or a.media j no_media) (get_or o.spots j no_spot) (get_or a.spots j no_spot)
          (spots_lined offer j (omega (arith, k))) (spots_lined answer j (omega (arith, k, g.0)))
