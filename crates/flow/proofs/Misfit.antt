-- 15, exactly: an answer fits, or its count differs and the place is 0, or the place is its lowest component that misfits. Assumes nothing.
use Prim.Native.Nat.{ℕ, suc, ◌+◌, ◌-◌}
use native.Mathlib.Omega.{arith}
use mathlib.Core.Path.{◌≡◌, sym, ap, ◌∙◌}
use mathlib.Core.Logic.{◌↔◌, ◌⊎◌, inl, inr, ⊎_map}
use mathlib.Core.Bool.{true, not, ◌&&◌, or-true}
use lib.Dec.{eqb}
use borrow.Author.Tests.{eqb-true, eqb-false, eq-eqb, ne_eqb, not-true}
use Rattle.sdp.specs.declared.Media.{Media}
use Rattle.sdp.proofs.Tests.{both}
use Rattle.flow.specs.declared.Descriptions.{Descriptions}
use Rattle.flow.specs.declared.Fit.{Fit}
use Rattle.flow.specs.Slots.{up_to_eight}
use Rattle.flow.specs.Fit.{misfits, lowest, fits, misfit_at, misfits_at, fit_at, fit_of, Fits, LowestMisfit}
use Rattle.flow.proofs.Tests.{by_test, or_either}
use Rattle.flow.proofs.Lowest.{lowest_none, none_lowest, lowest_is, is_lowest}
use Rattle.flow.proofs.Ranges.{fit_says}

module _ (offer answer : Media) where
  -- what differs between the texts, or what of their ports does not fit
  abbrev Misfits : Type 0
  Misfits =
      (offer.kind ≡ answer.kind → ⊥) ⊎ ((offer.transport ≡ answer.transport → ⊥) ⊎ ((offer.port ≡ 0) × (answer.port ≡ 0 → ⊥)))

  misfits_in : misfits offer answer ≡ true → Misfits
  unfolding misfits
  misfits_in e =
      ⊎_map (differs offer.kind answer.kind)
      (λ h. ⊎_map (differs offer.transport answer.transport) port (or_either (not (eqb offer.transport answer.transport)) _ h))
      (or_either (not (eqb offer.kind answer.kind)) _ e) where
        differs : (a b : ℕ) → not (eqb a b) ≡ true → a ≡ b → ⊥
        differs a b h = eqb-false a b (not-true (eqb a b) h)

        port : (eqb offer.port 0 && not (eqb answer.port 0)) ≡ true → (offer.port ≡ 0) × (answer.port ≡ 0 → ⊥)
        port h = let k = both (eqb offer.port 0) (not (eqb answer.port 0)) h in (eqb-true offer.port 0 k.0, differs answer.port 0 k.1)

  misfits_sound : Misfits → misfits offer answer ≡ true
  unfolding misfits
  misfits_sound (inl h) = rw (ne_eqb offer.kind answer.kind h)
  misfits_sound (inr (inl h)) = rw (ne_eqb offer.transport answer.transport h, or-true (not (eqb offer.kind answer.kind)))
  misfits_sound (inr (inr h)) =
      rw (h.0, ne_eqb answer.port 0 h.1, or-true (not (eqb offer.transport answer.transport)), or-true (not (eqb offer.kind answer.kind)))

  -- "media kind or transport differs, or port not 0 where the offer's is 0": exactly then a component misfits.
  pub misfits_exactly : (misfits offer answer ≡ true)
      ↔ ((offer.kind ≡ answer.kind → ⊥) ⊎ ((offer.transport ≡ answer.transport → ⊥) ⊎ ((offer.port ≡ 0) × (answer.port ≡ 0 → ⊥))))
  misfits_exactly = (misfits_in, misfits_sound)

-- An answer that fits is refused at no place, and one that is refused does not fit.
not_refused : (place : ℕ) → fits ≡ misfit_at place → ⊥
not_refused place e = let n : ◌≡◌ {A = ℕ} 0 15 = ap (λ (f : Fit). f.refusal) e in omega (arith, n)

-- Where a place is refused, it is that place.
refused_at : (first place : ℕ) → fit_at first ≡ misfit_at place → (first ≡ place) × (first ≡ 0 → ⊥)
unfolding fit_at
refused_at first place h =
    by_test (eqb first 0) (λ e. absurd (not_refused place (rw e at h)))
    (λ e. (ap (λ (f : Fit). f.place) (rw e at h), eqb-false first 0 e))

-- A refusal for a component has a place from 1.
refused_from_1 : (first : ℕ) → (fit_at first).refusal ≡ 15 → (j : ℕ) × (fit_at first ≡ misfit_at (j + 1))
unfolding fit_at
refused_from_1 first h =
    by_test (eqb first 0) (λ e. absurd (omega (arith, rw e at h))) (λ e. (first - 1, rw e (ap misfit_at (omega (arith, eqb-false first 0 e)))))

module _ (offer answer : Descriptions) where
  -- the lowest component that misfits
  abbrev first : ℕ
  first = lowest (misfits_at offer answer) (up_to_eight offer.count)

  same_fit : offer.count ≡ answer.count → fit_of offer answer ≡ fit_at first
  unfolding fit_of
  same_fit e = rw (eq-eqb offer.count answer.count e)

  other_fit : (offer.count ≡ answer.count → ⊥) → fit_of offer answer ≡ misfit_at 0
  unfolding fit_of
  other_fit h = rw (ne_eqb offer.count answer.count h)

  fits_in : fit_of offer answer ≡ fits → Fits offer answer
  fits_in e =
      let s = fit_says offer answer (ap (λ (f : Fit). f.refusal) e) in
      record { counts = s.0; none = lowest_none (misfits_at offer answer) (up_to_eight offer.count) s.1 }

  fits_sound : Fits offer answer → fit_of offer answer ≡ fits
  unfolding fit_at
  fits_sound f = same_fit f.counts ∙ rw (none_lowest (misfits_at offer answer) (up_to_eight offer.count) f.none)

  -- An answer is not refused with 15 exactly if the counts are the same and no component misfits.
  pub fits_exactly : (fit_of offer answer ≡ fits) ↔ Fits offer answer
  fits_exactly = (fits_in, fits_sound)

  -- "answer's count differs (place 0)": 15 has place 0 exactly if the counts differ.
  pub counts_exactly : (fit_of offer answer ≡ misfit_at 0) ↔ (offer.count ≡ answer.count → ⊥)
  counts_exactly = ((λ e c. let r = refused_at first 0 (sym (same_fit c) ∙ e) in r.1 r.0), other_fit)

  misfit_in : (j : ℕ) → fit_of offer answer ≡ misfit_at (j + 1) → LowestMisfit offer answer j
  misfit_in j e =
      by_test (eqb offer.count answer.count)
      (λ t.
      let c = eqb-true offer.count answer.count t in
      let p : first ≡ suc j = omega (arith, (refused_at first (j + 1) (sym (same_fit c) ∙ e)).0) in
      let l = lowest_is (misfits_at offer answer) (up_to_eight offer.count) j p in
      record { counts = c; below = l.0; misfits = l.1; lower = l.2 })
      (λ t.
      let p : ◌≡◌ {A = ℕ} 0 (j + 1) = ap (λ (f : Fit). f.place) (sym (other_fit (eqb-false offer.count answer.count t)) ∙ e) in
      absurd (omega (arith, p)))

  misfit_sound : (j : ℕ) → LowestMisfit offer answer j → fit_of offer answer ≡ misfit_at (j + 1)
  unfolding fit_at
  misfit_sound j m =
      let p : first ≡ j + 1 = is_lowest (misfits_at offer answer) (up_to_eight offer.count) j m.below m.misfits m.lower ∙ omega arith in
      same_fit m.counts ∙ rw p (rw (ne_eqb (j + 1) 0 (λ z. omega (arith, z))))

  -- "lowest component, from 1": 15 has place j + 1 exactly if the counts are the same, the component at slot j misfits, and none below it does.
  pub misfit_exactly : (j : ℕ) → (fit_of offer answer ≡ misfit_at (j + 1)) ↔ LowestMisfit offer answer j
  misfit_exactly j = (misfit_in j, misfit_sound j)

  -- There is no other: the counts differ and the place is 0, or the place is one of the count, from 1, and its component the lowest that misfits.
  pub misfit_first : (fit_of offer answer).refusal ≡ 15
      → ((offer.count ≡ answer.count → ⊥) × ((fit_of offer answer).place ≡ 0))
      ⊎ ((j : ℕ) × ((fit_of offer answer).place ≡ j + 1) × LowestMisfit offer answer j)
  misfit_first h =
      by_test (eqb offer.count answer.count) (λ t. inr (same (eqb-true offer.count answer.count t)))
      (λ t. inl (eqb-false offer.count answer.count t, ap (λ (f : Fit). f.place) (other_fit (eqb-false offer.count answer.count t)))) where
        same : offer.count ≡ answer.count → (j : ℕ) × ((fit_of offer answer).place ≡ j + 1) × LowestMisfit offer answer j
        same c =
            let k = refused_from_1 first (ap (λ (f : Fit). f.refusal) (sym (same_fit c)) ∙ h) in
            let e = same_fit c ∙ k.1 in
            (k.0, ap (λ (f : Fit). f.place) e, misfit_in k.0 e)
