-- A row fits where each thing that it asks for is so. Assumes nothing.
use mathlib.Core.Path.{◌≡◌, refl}
use mathlib.Core.Bool.{Bool, ◌&&◌}
use lib.Dec.{eqb}
use Rattle.std.specs.Prelude.{Option, Some, None}
use Rattle.sdp.specs.contracts.direction.DirectionPartialEq.TheImpl as of_direction
use Rattle.sdp.specs.Direction.{direction_number}
use Rattle.sdp.specs.declared.direction.Direction.{Direction}
use Rattle.sdp.specs.declared.direction.Direction.TheVariants.{Sendrecv, Sendonly, Recvonly, Inactive}
use Rattle.policy.specs.contracts.status_table.PortPartialEq.TheImpl as of_port
use Rattle.policy.specs.contracts.status_table.SdpPartialEq.TheImpl as of_sdp
use Rattle.policy.specs.declared.status_table.Case.{Case}
use Rattle.policy.specs.declared.status_table.Port.{Port}
use Rattle.policy.specs.declared.status_table.Port.TheVariants.{Zero, NotZero}
use Rattle.policy.specs.declared.status_table.Sdp.{Sdp}
use Rattle.policy.specs.declared.status_table.Sdp.TheVariants.{Uplink, Downlink}
use Rattle.policy.specs.declared.status_table.StatusRow.{StatusRow}
use Rattle.policy.specs.StatusTable.{port_number, sdp_number, met, fits}

-- Two tests that answer the same at each pair of values are met by the same.
met_same : {A : Type 0} (same same' : A → A → Bool) → ((x y : A) → same x y ≡ same' x y) → (o : Option A) (x : A) → met same o x ≡ met same' o x
unfolding met
met_same same same' h None x = refl
met_same same same' h (Some w) x = h w x

same_port : (p q : Port) → of_port.eq-value.it p q ≡ eqb (port_number p) (port_number q)
same_port Zero Zero = refl
same_port Zero NotZero = refl
same_port NotZero Zero = refl
same_port NotZero NotZero = refl

same_sdp : (s t : Sdp) → of_sdp.eq-value.it s t ≡ eqb (sdp_number s) (sdp_number t)
same_sdp Uplink Uplink = refl
same_sdp Uplink Downlink = refl
same_sdp Downlink Uplink = refl
same_sdp Downlink Downlink = refl

same_direction : (d e : Direction) → of_direction.eq-value.it d e ≡ eqb (direction_number d) (direction_number e)
same_direction Sendrecv Sendrecv = refl
same_direction Sendrecv Sendonly = refl
same_direction Sendrecv Recvonly = refl
same_direction Sendrecv Inactive = refl
same_direction Sendonly Sendrecv = refl
same_direction Sendonly Sendonly = refl
same_direction Sendonly Recvonly = refl
same_direction Sendonly Inactive = refl
same_direction Recvonly Sendrecv = refl
same_direction Recvonly Sendonly = refl
same_direction Recvonly Recvonly = refl
same_direction Recvonly Inactive = refl
same_direction Inactive Sendrecv = refl
same_direction Inactive Sendonly = refl
same_direction Inactive Recvonly = refl
same_direction Inactive Inactive = refl

pub fits_by : (r : StatusRow) (c : Case)
    → (met of_port.eq-value.it r.0 c.port && met of_direction.eq-value.it r.1 c.direction && met of_sdp.eq-value.it r.2 c.sdp) ≡ fits r c
unfolding fits
fits_by r c =
    rw (
      met_same of_port.eq-value.it (λ p q. eqb (port_number p) (port_number q)) same_port r.0 c.port,
      met_same of_direction.eq-value.it (λ d e. eqb (direction_number d) (direction_number e)) same_direction r.1 c.direction,
      met_same of_sdp.eq-value.it (λ s t. eqb (sdp_number s) (sdp_number t)) same_sdp r.2 c.sdp,
    )
