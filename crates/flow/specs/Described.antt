-- Described directions of the media flow; the RTCP flow; where the packets of a flow go.
use Rattle.std.specs.Prelude.{ℕ, ◌+◌, Bool, cond, not, ◌&&◌, ◌||◌, eqb}
use Rattle.flow.specs.declared.Way.{Way}
use Rattle.flow.specs.declared.Was.{Was}
use Rattle.flow.specs.declared.Component.{Component}
use Rattle.flow.specs.declared.Destination.{Destination}
use Rattle.flow.specs.declared.Destinations.{Destinations}
use Rattle.sdp.specs.Media.{rtp_avp}
use Rattle.flow.specs.Session.{enabled_uplink, enabled_downlink, enabled, disabled, removed, described}

abbrev pub had_both : Was → Bool
had_both was = not (eqb was.up 0) && not (eqb was.down 0)

-- "A component that had both stays with both until removed or its kind changes (NOTE 3)." (Table 6.2.2, NOTE 3, for every status)
unfoldable pub stays_both : Was → ℕ → Bool
stays_both was kind = had_both was && eqb was.kind kind

-- "Status 2 or 3: both. 0: up. 1: down. 4: none." (Table 6.2.2, Flow-Description)
abbrev pub both_at : ℕ → Bool
both_at status = eqb status enabled || eqb status disabled

abbrev pub none_at : ℕ → Bool
none_at status = eqb status removed

-- what stays described both ways is, "until removed"
unfoldable pub described_up : ℕ → Bool → Bool
described_up status stays = not (none_at status) && (stays || (both_at status || eqb status enabled_uplink))

unfoldable pub described_down : ℕ → Bool → Bool
described_down status stays = not (none_at status) && (stays || (both_at status || eqb status enabled_downlink))

-- "A live RTP/AVP component has an RTCP flow, described both ways"
abbrev pub has_rtcp : ℕ → ℕ → Bool
has_rtcp status transport = not (eqb status removed) && eqb transport rtp_avp

-- "Uplink destination is address and port of the downlink SDP; downlink destination those of the uplink SDP", which a way has; "zeros where not
-- described"
abbrev pub nowhere : Destination
nowhere = record { address = 0; port = 0 }

unfoldable pub destination : Bool → Way → ℕ → Destination
destination here way above = cond here (record { address = way.address; port = way.port + above }) nowhere

unfoldable pub media_to : Component → Destinations
media_to c = record { up = destination (described c.up) c.up 0; down = destination (described c.down) c.down 0 }

-- "each RTCP port is one above that text's own port"
unfoldable pub rtcp_to : Component → Destinations
rtcp_to c =
    record {
      up = destination (has_rtcp c.status c.transport) c.up 1;
      down = destination (has_rtcp c.status c.transport) c.down 1;
    }
