-- From a completed offer and answer to what the session then holds.
use Rattle.std.specs.Prelude.{ℕ, cond, get_or, ltb}
use Rattle.sdp.specs.Section.{no_media}
use Rattle.sdp.specs.declared.Media.{Media}
use Rattle.flow.specs.declared.Settings.{Settings}
use Rattle.flow.specs.declared.Component.{Component}
use Rattle.flow.specs.declared.Held.{Held}
use Rattle.flow.specs.declared.Was.{Was}
use Rattle.flow.specs.declared.Before.{Before}
use Rattle.flow.specs.declared.Descriptions.{Descriptions}
use Rattle.flow.specs.Session.{no_component}
use Rattle.flow.specs.Before.{before_at}
use Rattle.flow.specs.Status.{uplink, downlink, status}
use Rattle.flow.specs.Described.{stays_both, described_up, described_down}
use Rattle.flow.specs.Rates.{way_to}
use Rattle.flow.specs.Class.{class_of, kept_class}
use Rattle.flow.specs.Slots.{slots, up_to_eight}

-- the flows of a component, from what it was and what the offer and the answer say of it, before its class. "Uplink destination is address and
-- port of the downlink SDP; downlink destination those of the uplink SDP", and with them the rates
unfoldable pub flows_of : Settings → ℕ → Was → Media → Media → Component
flows_of set origin was offer answer =
    record {
      kind = offer.kind;
      transport = offer.transport;
      status = status origin offer answer;
      class = 0;
      up =
          way_to (status origin offer answer) offer.transport (described_up (status origin offer answer) (stays_both was offer.kind))
          (downlink origin offer answer) answer set.media.up set.rtcp.up;
      down =
          way_to (status origin offer answer) offer.transport (described_down (status origin offer answer) (stays_both was offer.kind))
          (uplink origin offer answer) answer set.media.down set.rtcp.down;
    }

-- with the class by the session's kept class
unfoldable pub classed : ℕ → Component → Component
classed kept c =
    record {
      kind = c.kind;
      transport = c.transport;
      status = c.status;
      class = class_of kept c.status c.kind;
      up = c.up;
      down = c.down;
    }

-- what an offer or an answer says of slot j
abbrev pub said_at : Descriptions → ℕ → Media
said_at d j = get_or d.media j no_media

-- slot j after the exchange, before its class
unfoldable pub slot_of : Settings → ℕ → Before → Descriptions → Descriptions → ℕ → Component
slot_of set origin before offer answer j =
    cond (ltb j offer.count) (flows_of set origin (before_at before j) (said_at offer j) (said_at answer j)) no_component

-- "At each completed exchange": the class kept from now on
unfoldable pub kept_after : Settings → ℕ → Before → Descriptions → Descriptions → ℕ
kept_after set origin before offer answer = kept_class before.kept (before_at before) (slot_of set origin before offer answer)

-- slot j after the exchange
unfoldable pub component_of : Settings → ℕ → Before → Descriptions → Descriptions → ℕ → Component
component_of set origin before offer answer j =
    cond (ltb j offer.count) (classed (kept_after set origin before offer answer) (slot_of set origin before offer answer j)) no_component

unfoldable pub derived : Settings → ℕ → Before → Descriptions → Descriptions → Held
derived set origin before offer answer =
    record {
      completed = 1;
      kept = kept_after set origin before offer answer;
      count = up_to_eight offer.count;
      components = slots (component_of set origin before offer answer);
    }
