-- What a session holds, slot by slot.
use Rattle.std.specs.Prelude.{ℕ, Bool, not, get_or, replicate, eqb}
use Rattle.sdp.specs.declared.Bps.{Bps}
use Rattle.flow.specs.declared.Way.{Way}
use Rattle.flow.specs.declared.Component.{Component}
use Rattle.flow.specs.declared.Held.{Held}
use Rattle.flow.specs.declared.status.Status.{Status}
use Rattle.flow.specs.declared.status.Status.TheVariants.{EnabledUplink, EnabledDownlink, Enabled, Disabled, Removed}

abbrev pub rate : ℕ → Bps
rate n = record { 0 = n }

-- a direction of a removed component, and of an unused slot: all zeros
abbrev pub no_way : Way
no_way = record { rtcp = rate 0; address = 0; media = 0; port = 0; described = 0 }

-- an unused slot: all zeros
abbrev pub no_component : Component
no_component = record { kind = 0; transport = 0; status = 0; class = 0; up = no_way; down = no_way }

-- "A fresh row has none of these, and class 0"
abbrev pub fresh_held : Held
fresh_held = record { completed = 0; kept = 0; count = 0; components = replicate 8 no_component }

-- what slot j holds
abbrev pub held_at : Held → ℕ → Component
held_at h j = get_or h.components j no_component

-- the numbers of a status
abbrev pub enabled_uplink : ℕ
enabled_uplink = 0

abbrev pub enabled_downlink : ℕ
enabled_downlink = 1

abbrev pub enabled : ℕ
enabled = 2

abbrev pub disabled : ℕ
disabled = 3

abbrev pub removed : ℕ
removed = 4

abbrev pub status_number : Status → ℕ
status_number EnabledUplink = enabled_uplink
status_number EnabledDownlink = enabled_downlink
status_number Enabled = enabled
status_number Disabled = disabled
status_number Removed = removed

-- "a component is live if its status is not 4"
abbrev pub live : Component → Bool
live c = not (eqb c.status removed)

-- whether a direction of it is described. It is stored: it does not follow from the port
abbrev pub described : Way → Bool
described w = not (eqb w.described 0)
