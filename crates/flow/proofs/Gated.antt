-- Gates: all are closed at status 3 and 4 and where a direction is not described; those of a derived component are open exactly as its status says.
-- Assumes nothing.
use Prim.Native.Nat.{ℕ, ◌<◌}
use mathlib.Core.Path.{◌≡◌, refl, sym, ap, ◌∙◌}
use mathlib.Core.Bool.{Bool, true, false, ◌&&◌, and-true, and-false, or-true, true≢false}
use lib.Dec.{eqb}
use borrow.Author.Tests.{ne_eqb}
use Rattle.sdp.specs.declared.Media.{Media}
use Rattle.flow.specs.declared.Settings.{Settings}
use Rattle.flow.specs.declared.Component.{Component}
use Rattle.flow.specs.declared.Was.{Was}
use Rattle.flow.specs.declared.Before.{Before}
use Rattle.flow.specs.declared.Descriptions.{Descriptions}
use Rattle.flow.specs.declared.Gates.{Gates}
use Rattle.flow.specs.Session.{described}
use Rattle.flow.specs.Before.{bit, before_at}
use Rattle.flow.specs.Status.{uplink, downlink, status}
use Rattle.flow.specs.Described.{stays_both, described_up, described_down, has_rtcp}
use Rattle.flow.specs.Derive.{flows_of, classed, said_at, component_of}
use Rattle.flow.specs.Gates.{up_at, down_at, rtcp_at, gates_of}
use Rattle.flow.proofs.Tests.{and_same, either_at}
use Rattle.flow.proofs.Derived.{component_below}
use Rattle.flow.proofs.Directed.{way_described}

-- the gates by two tests of the media flow, up and down, and one of the RTCP flow
abbrev pub gates_by : Bool → Bool → Bool → Gates
gates_by up down rtcp = record { media = record { up = bit up; down = bit down }; rtcp = record { up = bit rtcp; down = bit rtcp } }

-- all closed
abbrev pub shut : Gates
shut = record { media = record { up = 0; down = 0 }; rtcp = record { up = 0; down = 0 } }

module _ (c : Component) where
  -- All gates are closed at status 3.
  pub shut_disabled : c.status ≡ 3 → gates_of c ≡ shut
  unfolding gates_of bit
  shut_disabled h = rw h

  -- All gates are closed at status 4.
  pub shut_removed : c.status ≡ 4 → gates_of c ≡ shut
  unfolding gates_of bit
  shut_removed h = rw h

  -- The media gate up is closed where that direction is not described.
  pub shut_media_up : described c.up ≡ false → (gates_of c).media.up ≡ 0
  unfolding gates_of bit
  shut_media_up h = rw (h, and-false)

  -- The media gate down is closed where that direction is not described.
  pub shut_media_down : described c.down ≡ false → (gates_of c).media.down ≡ 0
  unfolding gates_of bit
  shut_media_down h = rw (h, and-false)

  -- The RTCP gates are closed where there is no RTCP flow.
  pub shut_rtcp : has_rtcp c.status c.transport ≡ false → ((gates_of c).rtcp.up ≡ 0) × ((gates_of c).rtcp.down ≡ 0)
  unfolding gates_of bit
  shut_rtcp h = (rw (h, and-false), rw (h, and-false))

-- What a test that fails at status 4 passes is live.
passes_live : (test : ℕ → Bool) (s : ℕ) → test 4 ≡ false → test s ≡ true → s ≡ 4 → ⊥
passes_live test s h e k = true≢false (sym e ∙ ap test k ∙ h)

-- A direction of the media flow whose gate is open by the status is described.
open_up : (s : ℕ) (both : Bool) → up_at s ≡ true → described_up s both ≡ true
unfolding described_up
open_up s both h = either_at (λ n. described_up n both ≡ true) s 0 2 h (or-true both) (or-true both)

open_down : (s : ℕ) (both : Bool) → down_at s ≡ true → described_down s both ≡ true
unfolding described_down
open_down s both h = either_at (λ n. described_down n both ≡ true) s 1 2 h (or-true both) (or-true both)

module _ (origin : ℕ) (offer answer : Media) where
  module _ (set : Settings) (was : Was) where
    abbrev s : ℕ
    s = status origin offer answer

    abbrev flows : Component
    flows = flows_of set origin was offer answer

    abbrev both : Bool
    both = stays_both was offer.kind

    -- A gate that is open by the status is open, since its direction is described.
    media_up : (up_at s && described flows.up) ≡ up_at s
    unfolding flows_of
    media_up =
        and_same (up_at s) (described flows.up) true
        (λ e.
        way_described offer.transport (described_up s both) (downlink origin offer answer) answer set.media.up set.rtcp.up s (passes_live up_at s refl e)
        ∙ open_up s both e)
        ∙ and-true (up_at s)

    media_down : (down_at s && described flows.down) ≡ down_at s
    unfolding flows_of
    media_down =
        and_same (down_at s) (described flows.down) true
        (λ e.
        way_described offer.transport (described_down s both) (uplink origin offer answer) answer set.media.down set.rtcp.down s (passes_live down_at s refl e)
        ∙ open_down s both e)
        ∙ and-true (down_at s)

    rtcp_either : (rtcp_at s && has_rtcp s offer.transport) ≡ (rtcp_at s && eqb offer.transport 1)
    rtcp_either =
        and_same (rtcp_at s) (has_rtcp s offer.transport) (eqb offer.transport 1) (λ e. rw (ne_eqb s 4 (passes_live rtcp_at s refl e)))

    flows_gates : gates_of flows ≡ gates_by (up_at s) (down_at s) (rtcp_at s && eqb offer.transport 1)
    unfolding gates_of flows_of
    flows_gates = rw (media_up, media_down, rtcp_either)

-- The gates of a derived component are open exactly as its status says; those of RTCP only where its transport is RTP/AVP.
pub derived_gates : (set : Settings) (origin : ℕ) (before : Before) (offer answer : Descriptions) (j : ℕ) → j < offer.count
    → gates_of (component_of set origin before offer answer j)
    ≡ gates_by (up_at (component_of set origin before offer answer j).status) (down_at (component_of set origin before offer answer j).status)
    (rtcp_at (component_of set origin before offer answer j).status && eqb (component_of set origin before offer answer j).transport 1)
unfolding classed flows_of gates_of
derived_gates set origin before offer answer j h =
    rw (component_below set origin before offer answer j h) (flows_gates origin (said_at offer j) (said_at answer j) set (before_at before j))
