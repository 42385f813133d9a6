-- The status rule as a table (02, request 3): the rows of table 6.2.1, Flow-Status, in the clause's order, of which the first that fits decides. What a
-- status is, `status` of `flow` says; that the table gives it, and that some row always fits, is in proofs/FirstFit.
use Rattle.std.specs.Prelude.{ℕ, List, [], ◌∷◌, Bool, true, false, cond, not, ◌≡◌, ◌&&◌, eqb, Option, Some, None}
use Rattle.sdp.specs.Direction.{sendrecv, sendonly, inactive, direction_number}
use Rattle.sdp.specs.declared.Media.{Media}
use Rattle.sdp.specs.declared.direction.Direction.{Direction}
use Rattle.sdp.specs.declared.direction.Direction.TheVariants.{Sendrecv, Sendonly, Recvonly, Inactive}
use Rattle.flow.specs.declared.status.Status.{Status}
use Rattle.flow.specs.declared.status.Status.TheVariants.{EnabledUplink, EnabledDownlink, Enabled, Disabled, Removed}
use Rattle.flow.specs.Status.{handset_offered, is_removed}
use Rattle.policy.specs.declared.status_table.Case.{Case}
use Rattle.policy.specs.declared.status_table.Port.{Port}
use Rattle.policy.specs.declared.status_table.Port.TheVariants.{Zero, NotZero}
use Rattle.policy.specs.declared.status_table.Sdp.{Sdp}
use Rattle.policy.specs.declared.status_table.Sdp.TheVariants.{Uplink, Downlink}
use Rattle.policy.specs.declared.status_table.StatusRow.{StatusRow}

-- the port, the direction and the SDP that a row asks for, and the status that it gives
abbrev pub row : Option Port → Option Direction → Option Sdp → Status → StatusRow
row port direction sdp gives = record { 0 = port; 1 = direction; 2 = sdp; 3 = gives }

unfoldable pub rows : List StatusRow
rows =
    -- 1: IF port in m-line = 0 THEN
    row (Some Zero) None None Removed
    -- 2: IF a=recvonly THEN IF <SDP direction> = UE originated THEN
    ∷ row None (Some Recvonly) (Some Uplink) EnabledDownlink
    -- 3: IF a=recvonly THEN .. ELSE /* UE terminated */
    ∷ row None (Some Recvonly) (Some Downlink) EnabledUplink
    -- 4: IF a=sendonly THEN IF <SDP direction> = UE originated THEN
    ∷ row None (Some Sendonly) (Some Uplink) EnabledUplink
    -- 5: IF a=sendonly THEN .. ELSE /* UE terminated */
    ∷ row None (Some Sendonly) (Some Downlink) EnabledDownlink
    -- 6: IF a=inactive THEN
    ∷ row None (Some Inactive) None Disabled
    -- 7: ELSE /* a=sendrecv or no direction attribute */
    ∷ row None None None Enabled
    ∷ []

-- whether it is as a row wants it, or the row does not ask
unfoldable pub met : {A : Type 0} → (A → A → Bool) → Option A → A → Bool
met same None is = true
met same (Some wanted) is = same wanted is

abbrev pub port_number : Port → ℕ
port_number Zero = 0
port_number NotZero = 1

abbrev pub sdp_number : Sdp → ℕ
sdp_number Uplink = 0
sdp_number Downlink = 1

-- whether all that a row asks for is so
unfoldable pub fits : StatusRow → Case → Bool
fits r c =
    met (λ p q. eqb (port_number p) (port_number q)) r.0 c.port
    && met (λ d e. eqb (direction_number d) (direction_number e)) r.1 c.direction
    && met (λ s t. eqb (sdp_number s) (sdp_number t)) r.2 c.sdp

-- the status by the first row that fits, if one does
unfoldable pub status_by : List StatusRow → Case → Option Status
status_by [] c = None
status_by (r ∷ rs) c = cond (fits r c) (Some r.3) (status_by rs c)

-- the first row of a table that fits
pub data Decides : List StatusRow → Case → StatusRow → Type 0 where
  here : {r : StatusRow} {rs : List StatusRow} {c : Case} → fits r c ≡ true → Decides (r ∷ rs) c r
  later : {q r : StatusRow} {rs : List StatusRow} {c : Case} → fits q c ≡ false → Decides rs c r → Decides (q ∷ rs) c r

-- "4 REMOVED if either port is 0"
abbrev pub port_by : Bool → Port
port_by zero = cond zero Zero NotZero

unfoldable pub port_of : Media → Media → Port
port_of offer answer = port_by (is_removed offer answer)

-- NOTE 8: the uplink SDP, UE originated, was received from the UE; the downlink SDP, UE terminated, from the network. The SDP that a text is, the
-- handset's or not
unfoldable pub sdp_of : Bool → Sdp
sdp_of handset = cond handset Uplink Downlink

-- a direction counts as itself; a number that no text gives, as recvonly, as it does in `status_of`
unfoldable pub counts_as : ℕ → Direction
counts_as direction = cond (eqb direction sendrecv) Sendrecv (cond (eqb direction sendonly) Sendonly (cond (eqb direction inactive) Inactive Recvonly))

-- what the rows are asked about where a text of this direction decides
abbrev pub case_by : Port → ℕ → Bool → Case
case_by port direction handset = record { port = port; direction = counts_as direction; sdp = sdp_of handset }

-- which text decides (NOTE 5): the answer, but for an inactive offer
unfoldable pub case_of : ℕ → Media → Media → Case
case_of origin offer answer =
    cond (eqb offer.direction inactive)
    (case_by (port_of offer answer) offer.direction (handset_offered origin))
    (case_by (port_of offer answer) answer.direction (not (handset_offered origin)))
