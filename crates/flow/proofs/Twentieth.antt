-- "One twentieth is .. rounded up, so RTCP is never short" (02, 7): the twentieth is never short, and less than a bit too much. Assumes nothing.
use Prim.Native.Nat.{ℕ, ◌*◌, ◌≤◌, ◌<◌}
use mathlib.Core.Path.{◌≡◌}
use mathlib.Core.Bool.{Bool, true, false, ◌&&◌, false≢true}
use lib.Dec.{ltb, eqb}
use native.Mathlib.Omega.{arith}
use borrow.Author.Tests.{ltb-true, ne_eqb}
use Rattle.sdp.specs.declared.Media.{Media}
use Rattle.flow.specs.declared.Settings.{Settings}
use Rattle.flow.specs.declared.Was.{Was}
use Rattle.flow.specs.declared.Component.{Component}
use Rattle.flow.specs.Status.{uplink, downlink}
use Rattle.flow.specs.Described.{has_rtcp}
use Rattle.flow.specs.Rates.{requested, present, figure, twentieth, larger, rtcp_rate, way_to}
use Rattle.flow.specs.Derive.{flows_of}
use Rattle.flow.proofs.Tests.{by_test}

-- 20 times the twentieth is never less than the rate ..
pub never_short : (r : ℕ) → r ≤ 20 * twentieth r
unfolding twentieth
never_short r = omega arith

-- .. and 20 times one less is: no smaller figure would do.
pub none_smaller : (r n : ℕ) → n < twentieth r → 20 * n < r
unfolding twentieth
none_smaller r n h = omega (arith, h)

larger_left : (a b : ℕ) → a ≤ larger a b
unfolding larger
larger_left a b = by_test (ltb a b) (λ e. rw e (omega (arith, ltb-true a b e))) (λ e. rw e (omega arith))

rate_enough : (answer text : Media) (default : ℕ) → (present answer.rsgiven && present answer.rrgiven) ≡ false → (text.requestedgiven ≡ 0 → ⊥)
    → text.requested ≤ 20 * (rtcp_rate answer text default).0
unfolding rtcp_rate requested
rate_enough answer text default e given =
    rw (e, ne_eqb text.requestedgiven 0 given)
    (omega (arith, never_short text.requested, larger_left (twentieth text.requested) (larger (figure answer.rsgiven answer.rs) (figure answer.rrgiven answer.rr))))

way_enough : (s transport : ℕ) (here : Bool) (text answer : Media) (media rtcp : ℕ) → has_rtcp s transport ≡ true
    → (present answer.rsgiven && present answer.rrgiven) ≡ false → (text.requestedgiven ≡ 0 → ⊥)
    → text.requested ≤ 20 * (way_to s transport here text answer media rtcp).rtcp.0
unfolding way_to
way_enough s transport here text answer media rtcp live e given =
    by_test (eqb s 4) (λ z. absurd (false≢true (rw z at live))) (λ z. rw (z, rw z at live) (rate_enough answer text rtcp e given))

-- Of a component with an RTCP flow whose answer has not both RS and RR: a twentieth of what is requested in a direction, at least, is its RTCP rate there.
module _ (set : Settings) (origin : ℕ) (was : Was) (offer answer : Media) where
  abbrev flows : Component
  flows = flows_of set origin was offer answer

  pub up_never_short : has_rtcp flows.status flows.transport ≡ true → (present answer.rsgiven && present answer.rrgiven) ≡ false
      → ((downlink origin offer answer).requestedgiven ≡ 0 → ⊥) → (downlink origin offer answer).requested ≤ 20 * flows.up.rtcp.0
  unfolding flows_of
  up_never_short = way_enough _ _ _ (downlink origin offer answer) answer set.media.up set.rtcp.up

  pub down_never_short : has_rtcp flows.status flows.transport ≡ true → (present answer.rsgiven && present answer.rrgiven) ≡ false
      → ((uplink origin offer answer).requestedgiven ≡ 0 → ⊥) → (uplink origin offer answer).requested ≤ 20 * flows.down.rtcp.0
  unfolding flows_of
  down_never_short = way_enough _ _ _ (uplink origin offer answer) answer set.media.down set.rtcp.down
