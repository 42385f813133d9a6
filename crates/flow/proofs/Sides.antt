-- Sides: the rates of a direction follow the rate requested by the text that its packets go to, and do not depend on the other's. Assumes nothing.
use Prim.Native.Nat.{ℕ}
use native.Mathlib.Omega.{arith}
use mathlib.Core.Path.{◌≡◌, refl, sym, ◌∙◌}
use mathlib.Core.Bool.{Bool, true, cond, not, false≢true}
use lib.Dec.{eqb}
use borrow.Author.Tests.{ne_eqb, le-ltb}
use Rattle.sdp.specs.Section.{with_requested}
use Rattle.sdp.specs.declared.Media.{Media}
use Rattle.sdp.specs.declared.Requested.{Requested}
use Rattle.flow.specs.declared.Settings.{Settings}
use Rattle.flow.specs.declared.Component.{Component}
use Rattle.flow.specs.declared.Was.{Was}
use Rattle.flow.specs.Session.{described}
use Rattle.flow.specs.Status.{uplink, downlink, is_removed, status}
use Rattle.flow.specs.Described.{has_rtcp}
use Rattle.flow.specs.Rates.{requested, twentieth, figure, media_rate, larger, rtcp_rate, way_to}
use Rattle.flow.specs.Derive.{flows_of}
use Rattle.flow.proofs.Tests.{by_test}
use Rattle.flow.proofs.Directed.{bit_says}

-- one of the two texts with another requested rate, or without one, the other as it is
abbrev pub changed : Bool → Media → Requested → Media
changed here m r = cond here (with_requested m r) m

-- A direction depends on the answer's RS and RR, and not on its requested rate, where it goes to the other text.
way_other : (s transport : ℕ) (here : Bool) (text answer : Media) (r : Requested) (media rtcp : ℕ)
    → way_to s transport here text (with_requested answer r) media rtcp ≡ way_to s transport here text answer media rtcp
unfolding way_to rtcp_rate
way_other s transport here text answer r media rtcp = refl

-- A described direction to a text with a requested rate has that rate.
way_media : (s transport : ℕ) (here : Bool) (text answer : Media) (media rtcp : ℕ) → described (way_to s transport here text answer media rtcp) ≡ true
    → (text.requestedgiven ≡ 0 → ⊥) → (way_to s transport here text answer media rtcp).media ≡ text.requested
unfolding way_to media_rate requested
way_media s transport here text answer media rtcp d given =
    by_test (eqb s 4) (λ e. absurd (false≢true (rw e at d)))
    (λ e.
    let h : here ≡ true = sym (bit_says here) ∙ rw e at d in
    rw (e, h, ne_eqb text.requestedgiven 0 given))

-- A direction of an RTCP flow to a text with a requested rate has a twentieth of it, rounded up, where the answer has neither RS nor RR.
way_rtcp : (s transport : ℕ) (here : Bool) (text answer : Media) (media rtcp : ℕ) → has_rtcp s transport ≡ true → (text.requestedgiven ≡ 0 → ⊥)
    → answer.rsgiven ≡ 0 → answer.rrgiven ≡ 0 → (way_to s transport here text answer media rtcp).rtcp.0 ≡ twentieth text.requested
unfolding way_to rtcp_rate requested figure larger
way_rtcp s transport here text answer media rtcp live given rs rr =
    by_test (eqb s 4) (λ e. absurd (false≢true (rw e at live)))
    (λ e. rw (e, rw e at live, rs, rr, ne_eqb text.requestedgiven 0 given, le-ltb (twentieth text.requested) 0 (omega arith)))

-- "Up: AS of the downlink SDP. Down: AS of the uplink SDP." "AS decides where present, else TIAS as it stands" (02, 7).
module _ (set : Settings) (origin : ℕ) (was : Was) (offer answer : Media) where
  -- what is derived from them
  abbrev flows : Component
  flows = flows_of set origin was offer answer

  -- Where the downlink SDP requests a rate, that is the media rate up of a flow described up.
  pub up_follows : described flows.up ≡ true → ((downlink origin offer answer).requestedgiven ≡ 0 → ⊥)
      → flows.up.media ≡ (downlink origin offer answer).requested
  unfolding flows_of
  up_follows = way_media _ _ _ (downlink origin offer answer) answer set.media.up set.rtcp.up

  -- Where the uplink SDP requests a rate, that is the media rate down of a flow described down.
  pub down_follows : described flows.down ≡ true → ((uplink origin offer answer).requestedgiven ≡ 0 → ⊥)
      → flows.down.media ≡ (uplink origin offer answer).requested
  unfolding flows_of
  down_follows = way_media _ _ _ (uplink origin offer answer) answer set.media.down set.rtcp.down

  -- A twentieth of it, rounded up, is the RTCP rate up, where the answer has neither RS nor RR.
  pub up_rtcp_follows : has_rtcp flows.status flows.transport ≡ true → ((downlink origin offer answer).requestedgiven ≡ 0 → ⊥) → answer.rsgiven ≡ 0
      → answer.rrgiven ≡ 0 → flows.up.rtcp.0 ≡ twentieth (downlink origin offer answer).requested
  unfolding flows_of
  up_rtcp_follows = way_rtcp _ _ _ (downlink origin offer answer) answer set.media.up set.rtcp.up

  -- And the RTCP rate down, by the uplink SDP.
  pub down_rtcp_follows : has_rtcp flows.status flows.transport ≡ true → ((uplink origin offer answer).requestedgiven ≡ 0 → ⊥) → answer.rsgiven ≡ 0
      → answer.rrgiven ≡ 0 → flows.down.rtcp.0 ≡ twentieth (uplink origin offer answer).requested
  unfolding flows_of
  down_rtcp_follows = way_rtcp _ _ _ (uplink origin offer answer) answer set.media.down set.rtcp.down

module _ (set : Settings) (origin : ℕ) (was : Was) (offer answer : Media) (r : Requested) where
  -- with another requested rate in the uplink SDP, which is the offer where the handset offered
  abbrev pub other_uplink : Component
  other_uplink = flows_of set origin was (changed (eqb origin 0) offer r) (changed (not (eqb origin 0)) answer r)

  -- with another requested rate in the downlink SDP
  abbrev pub other_downlink : Component
  other_downlink = flows_of set origin was (changed (not (eqb origin 0)) offer r) (changed (eqb origin 0) answer r)

  -- What goes up does not depend on the rate requested by the uplink SDP: neither its media rate nor its RTCP rate.
  pub up_side : other_uplink.up ≡ (flows_of set origin was offer answer).up
  unfolding flows_of downlink status is_removed
  up_side = by_test (eqb origin 0) (λ e. rw e) (λ e. rw e (way_other _ _ _ offer answer r set.media.up set.rtcp.up))

  -- What comes down does not depend on the rate requested by the downlink SDP.
  pub down_side : other_downlink.down ≡ (flows_of set origin was offer answer).down
  unfolding flows_of uplink status is_removed
  down_side = by_test (eqb origin 0) (λ e. rw e (way_other _ _ _ offer answer r set.media.down set.rtcp.down)) (λ e. rw e)
