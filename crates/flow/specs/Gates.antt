-- Gates.
use Rattle.std.specs.Prelude.{ℕ, Bool, ◌&&◌, ◌||◌, eqb}
use Rattle.flow.specs.declared.Component.{Component}
use Rattle.flow.specs.declared.Gates.{Gates}
use Rattle.flow.specs.Session.{enabled_uplink, enabled_downlink, enabled, described}
use Rattle.flow.specs.Before.{bit}
use Rattle.flow.specs.Described.{has_rtcp}

-- "Media up open for 0 and 2, down for 1 and 2."
abbrev pub up_at : ℕ → Bool
up_at status = eqb status enabled_uplink || eqb status enabled

abbrev pub down_at : ℕ → Bool
down_at status = eqb status enabled_downlink || eqb status enabled

-- "RTCP both open for 0, 1, 2. Closed for 3, 4."
abbrev pub rtcp_at : ℕ → Bool
rtcp_at status = eqb status enabled_uplink || (eqb status enabled_downlink || eqb status enabled)

-- a gate belongs to a flow: none is open in a direction that is not described, and none of RTCP where there is no RTCP flow
unfoldable pub gates_of : Component → Gates
gates_of c =
    record {
      media = record { up = bit (up_at c.status && described c.up); down = bit (down_at c.status && described c.down) };
      rtcp =
          record {
            up = bit (rtcp_at c.status && has_rtcp c.status c.transport);
            down = bit (rtcp_at c.status && has_rtcp c.status c.transport);
          };
    }
