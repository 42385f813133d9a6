-- Status. "Origin 0 means the handset offered, 1 the network. The uplink SDP is the handset's text, the downlink SDP the other."
use Rattle.std.specs.Prelude.{ℕ, Bool, cond, not, ◌||◌, eqb}
use Rattle.sdp.specs.Direction.{sendrecv, sendonly, inactive}
use Rattle.sdp.specs.declared.Media.{Media}
use Rattle.flow.specs.Session.{enabled_uplink, enabled_downlink, enabled, disabled, removed}

-- who offered
abbrev pub handset_offered : ℕ → Bool
handset_offered origin = eqb origin 0

-- table 6.2.1, NOTE 8: the uplink SDP was received from the UE, the downlink SDP from the network
unfoldable pub uplink : ℕ → Media → Media → Media
uplink origin offer answer = cond (handset_offered origin) offer answer

unfoldable pub downlink : ℕ → Media → Media → Media
downlink origin offer answer = cond (handset_offered origin) answer offer

-- "4 REMOVED if either port is 0"; table 6.2.1, Flow-Status: IF port in m-line = 0
unfoldable pub is_removed : Media → Media → Bool
is_removed offer answer = eqb offer.port 0 || eqb answer.port 0

-- where the media goes up alone, or down alone
unfoldable pub one_way : Bool → ℕ
one_way up = cond up enabled_uplink enabled_downlink

-- the status by a direction, in the uplink SDP or not: "inactive: 3 DISABLED. sendrecv: 2 ENABLED. sendonly in uplink SDP, or recvonly in
-- downlink SDP: 0 ENABLED-UPLINK. The other two: 1 ENABLED-DOWNLINK."
unfoldable pub status_of : ℕ → Bool → ℕ
status_of direction inUplink =
    cond (eqb direction inactive) disabled
    (cond (eqb direction sendrecv) enabled
    (cond (eqb direction sendonly) (one_way inUplink)
    (one_way (not inUplink))))

-- "Else the deciding direction is the offer's if that is inactive, otherwise the answer's (clause 6.2, NOTE 4)"; for the status itself the
-- same rule is NOTE 5 of table 6.2.1. The answer is the uplink SDP where the network offered
unfoldable pub status : ℕ → Media → Media → ℕ
status origin offer answer =
    cond (is_removed offer answer) removed
    (cond (eqb offer.direction inactive) disabled
    (status_of answer.direction (not (handset_offered origin))))
