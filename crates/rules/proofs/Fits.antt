-- The loop of `fit`: none of the slots so far misfits, or the first that does is the lowest. Assumes nothing.
use Prim.Native.Nat.{ℕ, zero, suc, ◌+◌, ◌≤◌, ◌<◌}
use native.Mathlib.Omega.{arith}
use mathlib.Core.Path.{◌≡◌, refl, sym, ap, ◌∙◌}
use mathlib.Core.List.{List}
use lib.ListN.{get_or, take}
use Rattle.std.proofs.lemmas.List.{get_or-take}
use mathlib.Core.Bool.{Bool, true, false}
use native.Mathlib.Decide.{ℕ_discrete}
use borrow.Author.Tests.{eq-eqb, ne_eqb}
use Rattle.sdp.specs.Section.{no_media}
use Rattle.sdp.specs.declared.Media.{Media}
use Rattle.flow.specs.declared.Descriptions.{Descriptions}
use Rattle.flow.specs.Derive.{said_at}
use Rattle.flow.specs.Fit.{misfits, misfits_at, misfit_at, lowest, fits, fit_at, fit_of}
use Rattle.flow.specs.Slots.{up_to_eight}

lowest_kept : (p : ℕ → Bool) (j n : ℕ) → lowest p n ≡ suc j → lowest p (suc n) ≡ suc j
unfolding lowest
lowest_kept p j n e = rw (e, ne_eqb (suc j) 0 (λ q. omega (arith, q)))

-- the lowest, once found, is the lowest of any number more
lowest_stays : (p : ℕ → Bool) (j n : ℕ) → j < n → lowest p (suc j) ≡ suc j → lowest p n ≡ suc j
lowest_stays p j zero h e = absurd (omega arith)
lowest_stays p j (suc n) h e = by (ℕ_discrete n j) (λ k. lowest_stays p j n k e) where
  by : Dec (n ≡ j) → (j < n → lowest p n ≡ suc j) → lowest p (suc n) ≡ suc j
  by (yes q) k = rw q e
  by (no q) k = lowest_kept p j n (k (omega (arith, q)))

lowest_here : (p : ℕ → Bool) (j : ℕ) → lowest p j ≡ 0 → p j ≡ true → lowest p (suc j) ≡ suc j
unfolding lowest
lowest_here p j e t = rw (e, t)

lowest_passes : (p : ℕ → Bool) (j : ℕ) → lowest p j ≡ 0 → p j ≡ false → lowest p (suc j) ≡ 0
unfolding lowest
lowest_passes p j e t = rw (e, t)

-- before turn j: none of the first j misfits
pub record Fitting (offer answer : Descriptions) (j : ℕ) : Type 0 where
  pub few : j ≤ up_to_eight offer.count
  pub none : lowest (misfits_at offer answer) j ≡ 0

module _ (offer answer : Descriptions) where
  pub counts_differ : (offer.count ≡ answer.count → ⊥) → misfit_at 0 ≡ fit_of offer answer
  unfolding fit_of
  counts_differ h = rw (ne_eqb offer.count answer.count h)

  pub fitting_none : Fitting offer answer 0
  unfolding lowest
  fitting_none = record { few = omega arith; none = refl }

  at : (items : List Media) (j : ℕ) → items ≡ take (up_to_eight offer.count) offer.media → j < up_to_eight offer.count
      → misfits (get_or items j no_media) (said_at answer j) ≡ misfits_at offer answer j
  at items j i h = rw i (ap (λ o. misfits o (said_at answer j)) (get_or-take (up_to_eight offer.count) offer.media j no_media h))

  module _ (items : List Media) (j : ℕ) (b : Bool) (i : items ≡ take (up_to_eight offer.count) offer.media) (h : j < up_to_eight offer.count)
      (s : Fitting offer answer j) (e : b ≡ misfits (get_or items j no_media) (said_at answer j)) where
    pub fitting_next : b ≡ false → Fitting offer answer (j + 1)
    fitting_next t =
        let n : j + 1 ≡ suc j = omega arith in
        record { few = omega (arith, h); none = rw n (lowest_passes (misfits_at offer answer) j s.none (sym (e ∙ at items j i h) ∙ t)) }

    pub misfit_here : offer.count ≡ answer.count → b ≡ true → misfit_at (j + 1) ≡ fit_of offer answer
    unfolding fit_of fit_at
    misfit_here q t = rw (eq-eqb offer.count answer.count q, found, ne_eqb (suc j) 0 (λ x. omega (arith, x)), n) where
      n : j + 1 ≡ suc j
      n = omega arith

      found : lowest (misfits_at offer answer) (up_to_eight offer.count) ≡ suc j
      found =
          lowest_stays (misfits_at offer answer) j (up_to_eight offer.count) h
          (lowest_here (misfits_at offer answer) j s.none (sym (e ∙ at items j i h) ∙ t))

  pub all_fit : (j : ℕ) → offer.count ≡ answer.count → Fitting offer answer j → up_to_eight offer.count ≤ j → fits ≡ fit_of offer answer
  unfolding fit_of fit_at
  all_fit j q s h = rw (eq-eqb offer.count answer.count q, none) where
    none : lowest (misfits_at offer answer) (up_to_eight offer.count) ≡ 0
    none = let e : up_to_eight offer.count ≡ j = omega (arith, h, s.few) in rw e s.none
