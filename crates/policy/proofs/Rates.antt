-- The rates of a direction: for each return the law that it follows. Assumes nothing.
use Prim.Native.Nat.{ℕ, ◌+◌, ◌/◌, ◌%◌, min, max}
use native.Mathlib.Omega.{arith}
use mathlib.Core.Path.{◌≡◌, refl, ap, ◌∙◌}
use mathlib.Core.Bool.{Bool, true, false, cond, not, ◌&&◌}
use lib.Dec.{eqb}
use Rattle.std.specs.Prelude.{Option, Some, None, unwrap_or}
use Rattle.std.specs.Option.{option_or, option_zip}
use Rattle.sdp.specs.Section.{absent}
use Rattle.sdp.specs.declared.Bps.{Bps}
use Rattle.sdp.specs.declared.Media.{Media}
use Rattle.flow.specs.declared.status.Status.{Status}
use Rattle.flow.specs.declared.status.Status.TheVariants.{EnabledUplink, EnabledDownlink, Enabled, Disabled, Removed}
use Rattle.flow.specs.Session.{rate, status_number}
use Rattle.flow.specs.Described.{has_rtcp}
use Rattle.flow.specs.Rates.{twentieth, larger, figure, requested, rtcp_rate, present}
use Rattle.flow.proofs.Tests.{max_is}
use Rattle.policy.specs.Steps.{when}

-- `twentieth_of`
pub ceiling_is : (n : ℕ) → n / 20 + min 1 (n % 20) ≡ twentieth n
unfolding twentieth
ceiling_is n = omega arith

larger_is : (a b : ℕ) → max a b ≡ larger a b
unfolding larger
larger_is a b = max_is a b

larger_zero : (a : ℕ) → a ≡ larger a 0
larger_zero a = let e : a ≡ max a 0 = omega arith in e ∙ larger_is a 0

zero_larger : (a : ℕ) → a ≡ larger 0 a
zero_larger a = let e : a ≡ max 0 a = omega arith in e ∙ larger_is 0 a

-- `rtcp_rate`, by whether RS, RR and a requested rate are absent
abbrev rates_by : Bool → Bool → Bool → ℕ → ℕ → ℕ → ℕ → Bps
rates_by p q t rs rr n default =
    cond (not p && not q) (rate (rs + rr)) (cond t (rate default) (rate (larger (twentieth n) (larger (cond p 0 rs) (cond q 0 rr)))))

both_by : (p q t : Bool) (rs rr n default a b : ℕ) → option_zip (when (not p) rs) (when (not q) rr) ≡ Some (a, b) → rate (a + b) ≡ rates_by p q t rs rr n default
both_by false false t rs rr n default a b e =
    let p : (a, b) ≡ (rs, rr) = cc in
    ap (λ (x : ℕ × ℕ). rate (x.0 + x.1)) p
both_by false true t rs rr n default a b e = cc
both_by true q t rs rr n default a b e = cc

none_by : (p q t : Bool) (rs rr n default : ℕ) → option_zip (when (not p) rs) (when (not q) rr) ≡ None → when (not t) n ≡ None → rate default ≡ rates_by p q t rs rr n default
none_by false false t rs rr n default e f = cc
none_by false true true rs rr n default e f = refl
none_by false true false rs rr n default e f = cc
none_by true q true rs rr n default e f = refl
none_by true q false rs rr n default e f = cc

asked_by : (p q t : Bool) (rs rr n default r : ℕ) → option_zip (when (not p) rs) (when (not q) rr) ≡ None → when (not t) n ≡ Some r
    → rate (max (twentieth r) (unwrap_or (option_or (when (not p) rs) (when (not q) rr)) 0)) ≡ rates_by p q t rs rr n default
asked_by false false t rs rr n default r e f = cc
asked_by false true true rs rr n default r e f = cc
asked_by true q true rs rr n default r e f = cc
asked_by false true false rs rr n default r e f = let g : n ≡ r = cc in rw (← g, ← larger_zero rs) (ap rate (larger_is (twentieth n) rs))
asked_by true true false rs rr n default r e f = let g : n ≡ r = cc in rw (← g, ← larger_zero 0) (ap rate (larger_is (twentieth n) 0))
asked_by true false false rs rr n default r e f = let g : n ≡ r = cc in rw (← g, ← zero_larger rr) (ap rate (larger_is (twentieth n) rr))

-- what the code knows of the two figures and of the requested rate
abbrev pub rs_of : Media → Option ℕ
rs_of answer = when (present answer.rsgiven) answer.rs

abbrev pub rr_of : Media → Option ℕ
rr_of answer = when (present answer.rrgiven) answer.rr

abbrev pub asked_of : Media → Option ℕ
asked_of text = when (present text.requestedgiven) text.requested

module _ (answer text : Media) (default : ℕ) where
  pub both_given : (a b : ℕ) → option_zip (rs_of answer) (rr_of answer) ≡ Some (a, b) → rate (a + b) ≡ rtcp_rate answer text default
  unfolding rtcp_rate requested figure
  both_given = both_by (absent answer.rsgiven) (absent answer.rrgiven) (absent text.requestedgiven) answer.rs answer.rr text.requested default

  pub none_asked : option_zip (rs_of answer) (rr_of answer) ≡ None → asked_of text ≡ None → rate default ≡ rtcp_rate answer text default
  unfolding rtcp_rate requested figure
  none_asked = none_by (absent answer.rsgiven) (absent answer.rrgiven) (absent text.requestedgiven) answer.rs answer.rr text.requested default

  pub rate_asked : (r : ℕ) → option_zip (rs_of answer) (rr_of answer) ≡ None → asked_of text ≡ Some r
      → rate (max (twentieth r) (unwrap_or (option_or (rs_of answer) (rr_of answer)) 0)) ≡ rtcp_rate answer text default
  unfolding rtcp_rate requested figure
  rate_asked = asked_by (absent answer.rsgiven) (absent answer.rrgiven) (absent text.requestedgiven) answer.rs answer.rr text.requested default

-- `way_to`, of a live component
pub not_removed : (s : Status) → (s ≡ Removed → ⊥) → eqb (status_number s) 4 ≡ false
not_removed EnabledUplink h = refl
not_removed EnabledDownlink h = refl
not_removed Enabled h = refl
not_removed Disabled h = refl
not_removed Removed h = absurd (h refl)

pub live_rtcp : (status transport : ℕ) → eqb status 4 ≡ false → has_rtcp status transport ≡ eqb transport 1
live_rtcp status transport e = rw e
