-- 15: the fit of an answer to an offer.
use Rattle.std.specs.Prelude.{ℕ, zero, suc, ◌<◌, ◌≡◌, Bool, true, false, cond, not, ◌&&◌, ◌||◌, eqb}
use Rattle.sdp.specs.declared.Media.{Media}
use Rattle.sdp.specs.declared.Text.{Text}
use Rattle.flow.specs.declared.Descriptions.{Descriptions}
use Rattle.flow.specs.declared.Fit.{Fit}
use Rattle.flow.specs.Derive.{said_at}
use Rattle.flow.specs.Slots.{up_to_eight}

-- what a text says of its media, without where it says it
abbrev pub said : Text → Descriptions
said t = record { count = t.count; media = t.media }

-- "media kind or transport differs, or port not 0 where the offer's is 0"
unfoldable pub misfits : Media → Media → Bool
misfits offer answer =
    not (eqb offer.kind answer.kind) || (not (eqb offer.transport answer.transport) || (eqb offer.port 0 && not (eqb answer.port 0)))

-- "lowest component, from 1", of the first n; 0 where none of them misfits
unfoldable pub lowest : (ℕ → Bool) → ℕ → ℕ
lowest p zero = 0
lowest p (suc n) = cond (not (eqb (lowest p n) 0)) (lowest p n) (cond (p n) (suc n) 0)

abbrev pub fits : Fit
fits = record { refusal = 0; place = 0 }

abbrev pub misfit_at : ℕ → Fit
misfit_at place = record { refusal = 15; place = place }

-- the component at slot j of the two texts misfits
abbrev pub misfits_at : Descriptions → Descriptions → ℕ → Bool
misfits_at offer answer j = misfits (said_at offer j) (said_at answer j)

unfoldable pub fit_at : ℕ → Fit
fit_at place = cond (eqb place 0) fits (misfit_at place)

-- "answer's count differs (place 0)"
unfoldable pub fit_of : Descriptions → Descriptions → Fit
fit_of offer answer =
    cond (not (eqb offer.count answer.count)) (misfit_at 0)
    (fit_at (lowest (misfits_at offer answer) (up_to_eight offer.count)))

-- the same in words, for the theorems `fits_exactly` and `misfit_exactly`. The answer fits: the counts are the same, and no component misfits
pub record Fits (offer answer : Descriptions) : Type 0 where
  pub counts : offer.count ≡ answer.count
  pub none : (j : ℕ) → j < up_to_eight offer.count → misfits_at offer answer j ≡ false

-- the component at slot j is the lowest that misfits
pub record LowestMisfit (offer answer : Descriptions) (j : ℕ) : Type 0 where
  pub counts : offer.count ≡ answer.count
  pub below : j < up_to_eight offer.count
  pub misfits : misfits_at offer answer j ≡ true
  pub lower : (i : ℕ) → i < j → misfits_at offer answer i ≡ false
