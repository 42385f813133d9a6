-- A direction of a component: zeros where removed, else the text's address and port, and described as it is said to be; so each flow goes where
-- document 01 says. Assumes nothing.
use Prim.Native.Nat.{ℕ, ◌+◌, ◌≤◌}
use mathlib.Core.Path.{◌≡◌, refl, sym}
use mathlib.Core.Bool.{Bool, true, false, cond, not}
use lib.Dec.{eqb}
use borrow.Author.Tests.{eqb-true, eqb-false, ne_eqb}
use native.Mathlib.Omega.{arith}
use Rattle.sdp.specs.declared.Media.{Media}
use Rattle.flow.specs.declared.Settings.{Settings}
use Rattle.flow.specs.declared.Was.{Was}
use Rattle.flow.specs.declared.Destination.{Destination}
use Rattle.flow.specs.Session.{no_way, described}
use Rattle.flow.specs.Before.{bit}
use Rattle.flow.specs.Status.{uplink, downlink, status}
use Rattle.flow.specs.Described.{stays_both, described_up, described_down, has_rtcp, nowhere, destination, media_to, rtcp_to}
use Rattle.flow.specs.Rates.{way_to}
use Rattle.flow.specs.Derive.{flows_of}
use Rattle.flow.proofs.Tests.{by_test}

-- What a bit says is what it was made of.
pub bit_says : (b : Bool) → not (eqb (bit b) 0) ≡ b
unfolding bit
bit_says true = refl
bit_says false = refl

pub bit_most : (b : Bool) → bit b ≤ 1
unfolding bit
bit_most true = omega arith
bit_most false = omega arith

module _ (transport : ℕ) (here : Bool) (text answer : Media) (media rtcp : ℕ) where
  -- A direction of a removed component is all zeros.
  pub way_removed : way_to 4 transport here text answer media rtcp ≡ no_way
  unfolding way_to
  way_removed = refl

  -- A direction of a live component is described where it is said to be.
  pub way_described : (status : ℕ) → (status ≡ 4 → ⊥) → described (way_to status transport here text answer media rtcp) ≡ here
  unfolding way_to
  way_described status live = rw (ne_eqb status 4 live) (bit_says here)

-- where the packets of one direction of a flow go, by the text
abbrev pub to_text : Bool → Media → ℕ → Destination
to_text here text above = cond here (record { address = text.address; port = text.port + above }) nowhere

-- A direction of a component goes to its text; of a removed component nothing is described, and it goes nowhere.
way_goes_to : (status transport : ℕ) (here : Bool) (text answer : Media) (media rtcp above : ℕ) (test : Bool) → (status ≡ 4 → test ≡ false)
    → destination test (way_to status transport here text answer media rtcp) above ≡ to_text test text above
unfolding destination way_to
way_goes_to status transport here text answer media rtcp above test h =
    by_test (eqb status 4) (λ e. rw (h (eqb-true status 4 e))) (λ e. rw e)

-- It is described where it is said to be, also where it is removed, since then it is not said to be.
way_says : (status transport : ℕ) (here : Bool) (text answer : Media) (media rtcp : ℕ) → (status ≡ 4 → here ≡ false)
    → described (way_to status transport here text answer media rtcp) ≡ here
way_says status transport here text answer media rtcp h =
    by_test (eqb status 4)
    (λ e. rw (eqb-true status 4 e, way_removed transport here text answer media rtcp) (sym (h (eqb-true status 4 e))))
    (λ e. way_described transport here text answer media rtcp status (eqb-false status 4 e))

module _ (set : Settings) (origin : ℕ) (was : Was) (offer answer : Media) where
  abbrev s : ℕ
  s = status origin offer answer

  abbrev up : Bool
  up = described_up s (stays_both was offer.kind)

  abbrev down : Bool
  down = described_down s (stays_both was offer.kind)

  none_up : s ≡ 4 → up ≡ false
  unfolding described_up
  none_up e = rw e

  none_down : s ≡ 4 → down ≡ false
  unfolding described_down
  none_down e = rw e

  -- "Uplink destination is address and port of the downlink SDP; downlink destination those of the uplink SDP; zeros where not described."
  pub media_goes_to : media_to (flows_of set origin was offer answer)
      ≡ record { up = to_text up (downlink origin offer answer) 0; down = to_text down (uplink origin offer answer) 0 }
  unfolding media_to flows_of
  media_goes_to =
      rw (
        way_says s offer.transport up (downlink origin offer answer) answer set.media.up set.rtcp.up none_up,
        way_says s offer.transport down (uplink origin offer answer) answer set.media.down set.rtcp.down none_down,
        way_goes_to s offer.transport up (downlink origin offer answer) answer set.media.up set.rtcp.up 0 up none_up,
        way_goes_to s offer.transport down (uplink origin offer answer) answer set.media.down set.rtcp.down 0 down none_down,
      )

  -- "A live RTP/AVP component has an RTCP flow, described both ways; each RTCP port is one above that text's own port."
  pub rtcp_goes_to : rtcp_to (flows_of set origin was offer answer)
      ≡ record { up = to_text (has_rtcp s offer.transport) (downlink origin offer answer) 1; down = to_text (has_rtcp s offer.transport) (uplink origin offer answer) 1 }
  unfolding rtcp_to flows_of
  rtcp_goes_to =
      rw (
        way_goes_to s offer.transport up (downlink origin offer answer) answer set.media.up set.rtcp.up 1 (has_rtcp s offer.transport) (λ e. rw e),
        way_goes_to s offer.transport down (uplink origin offer answer) answer set.media.down set.rtcp.down 1 (has_rtcp s offer.transport) (λ e. rw e),
      )
