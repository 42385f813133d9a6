-- Status: computed. Assumes nothing.
use Rattle.flow.specs.Session.{status_number}
use Rattle.flow.specs.declared.status.Status.TheVariants as status_of
use Prim.Native.Nat.{ℕ}
use mathlib.Core.Path.{◌≡◌, refl}
use mathlib.Core.List.{List, [], ◌∷◌, ◌++◌, map}
use lib.ListN.{replicate}
use Rattle.sdp.specs.Direction.{sendrecv, sendonly, recvonly, inactive}
use Rattle.sdp.specs.Media.{audio_kind, video_kind, application_kind, data_kind, control_kind, other_kind, rtp_avp, udp}
use Rattle.sdp.specs.Section.{no_address, with_address}
use Rattle.sdp.specs.declared.Media.{Media}
use Rattle.flow.specs.Status.{uplink, downlink, status}
use Rattle.flow.proofs.Computing.{computing}

-- what a text says of a flow by kind, transport, direction, address and port, without rates
abbrev pub says : ℕ → ℕ → ℕ → ℕ → ℕ → Media
says kind transport direction address port =
    record {
      address = address;
      requested = 0;
      rs = 0;
      rr = 0;
      port = port;
      kind = kind;
      transport = transport;
      direction = direction;
      known = 1;
      requestedgiven = 0;
      rsgiven = 0;
      rrgiven = 0;
    }

-- audio with this direction and port
abbrev pub talk : ℕ → ℕ → Media
talk direction port = says audio_kind rtp_avp direction 9 port

-- "Origin 0 means the handset offered, 1 the network. The uplink SDP is the handset's text, the downlink SDP the other."
pub sides : (map (λ origin. (uplink origin (talk sendrecv 7) (talk sendrecv 8)).port) (0 ∷ 1 ∷ []) ≡ (7 ∷ 8 ∷ []))
    × (map (λ origin. (downlink origin (talk sendrecv 7) (talk sendrecv 8)).port) (0 ∷ 1 ∷ []) ≡ (8 ∷ 7 ∷ []))
unfolding computing
sides = (refl, refl)

-- an origin, direction and port of the offer and of the answer, and the status
abbrev Case : Type 0
Case = ℕ × (ℕ × ℕ) × (ℕ × ℕ) × ℕ

abbrev figures : Case → ℕ
figures k = k.3

abbrev told : Case → ℕ
told k = status k.0 (talk k.1.0 k.1.1) (talk k.2.0 k.2.1)

abbrev cases : List Case
cases =
    -- "4 REMOVED if either port is 0", whatever the directions
    (0, (sendrecv, 0), (sendrecv, 0), 4)
    ∷ (0, (sendrecv, 9), (sendrecv, 0), 4)
    ∷ (0, (sendrecv, 0), (sendrecv, 9), 4)
    ∷ (1, (inactive, 9), (sendrecv, 0), 4)
    ∷ (1, (inactive, 0), (inactive, 0), 4)
    ∷ (0, (sendrecv, 1), (sendrecv, 1), 2)
    -- "Else the deciding direction is the offer's if that is inactive, otherwise the answer's". "inactive: 3 DISABLED."
    ∷ (0, (inactive, 9), (sendrecv, 9), 3)
    ∷ (1, (inactive, 9), (sendonly, 9), 3)
    ∷ (0, (inactive, 9), (recvonly, 9), 3)
    ∷ (0, (inactive, 9), (inactive, 9), 3)
    ∷ (0, (sendrecv, 9), (inactive, 9), 3)
    ∷ (1, (sendonly, 9), (inactive, 9), 3)
    -- "sendrecv: 2 ENABLED."
    ∷ (0, (sendrecv, 9), (sendrecv, 9), 2)
    ∷ (1, (sendonly, 9), (sendrecv, 9), 2)
    ∷ (0, (recvonly, 9), (sendrecv, 9), 2)
    -- "sendonly in uplink SDP, or recvonly in downlink SDP: 0 ENABLED-UPLINK."
    ∷ (1, (recvonly, 9), (sendonly, 9), 0)
    ∷ (0, (sendonly, 9), (recvonly, 9), 0)
    ∷ (1, (sendrecv, 9), (sendonly, 9), 0)
    ∷ (0, (sendrecv, 9), (recvonly, 9), 0)
    -- "The other two: 1 ENABLED-DOWNLINK."
    ∷ (0, (recvonly, 9), (sendonly, 9), 1)
    ∷ (1, (sendonly, 9), (recvonly, 9), 1)
    ∷ (0, (sendrecv, 9), (sendonly, 9), 1)
    ∷ (1, (sendrecv, 9), (recvonly, 9), 1)
    ∷ []

pub statuses : map told cases ≡ map figures cases
unfolding computing
statuses = refl

-- An address that is not known removes nothing: a host may lend such an offer.
pub address_unknown : (status 0 (with_address (talk sendrecv 9) no_address) (talk sendrecv 9) ≡ 2) × (status 0 (talk sendrecv 9) (with_address (talk recvonly 9) no_address) ≡ 0)
unfolding computing
address_unknown = (refl, refl)

abbrev pub kinds : List ℕ
kinds = audio_kind ∷ video_kind ∷ application_kind ∷ data_kind ∷ control_kind ∷ other_kind ∷ []

-- of each kind, by either transport, at an address and at 0.0.0.0, which is one like any other: 24 in all
abbrev of_each : {A : Type 0} → (ℕ → ℕ → ℕ → A) → List A
of_each f =
    map (λ kind. f kind rtp_avp 9) kinds ++ map (λ kind. f kind rtp_avp 0) kinds ++ map (λ kind. f kind udp 9) kinds ++ map (λ kind. f kind udp 0) kinds

-- sendrecv, sendonly, recvonly, inactive
abbrev directions : List ℕ
directions = sendrecv ∷ sendonly ∷ recvonly ∷ inactive ∷ []

-- the status by each direction of the offer, a row, and of the answer, a column; by these ports
abbrev by_directions : ℕ → ℕ → ℕ → ℕ → ℕ → ℕ → List (List ℕ)
by_directions origin o a kind transport address =
    map (λ in_offer. map (λ in_answer. status origin (says kind transport in_offer address o) (says kind transport in_answer address a)) directions) directions

-- All of them: only port 0, the two directions and the origin count.
pub every_status :
    (of_each (by_directions 0 7 8)
    ≡ replicate 24 ((2 ∷ 1 ∷ 0 ∷ 3 ∷ []) ∷ (2 ∷ 1 ∷ 0 ∷ 3 ∷ []) ∷ (2 ∷ 1 ∷ 0 ∷ 3 ∷ []) ∷ (3 ∷ 3 ∷ 3 ∷ 3 ∷ []) ∷ []))
    × (of_each (by_directions 1 7 8)
    ≡ replicate 24 ((2 ∷ 0 ∷ 1 ∷ 3 ∷ []) ∷ (2 ∷ 0 ∷ 1 ∷ 3 ∷ []) ∷ (2 ∷ 0 ∷ 1 ∷ 3 ∷ []) ∷ (3 ∷ 3 ∷ 3 ∷ 3 ∷ []) ∷ []))
    × (map (λ (k : ℕ × ℕ × ℕ). of_each (by_directions k.0 k.1 k.2)) ((0, 0, 8) ∷ (0, 7, 0) ∷ (0, 0, 0) ∷ (1, 0, 8) ∷ (1, 7, 0) ∷ (1, 0, 0) ∷ [])
    ≡ replicate 6 (replicate 24 (replicate 4 (replicate 4 4))))
unfolding computing
every_status = (refl, refl, refl)

-- the numbers of the statuses (TS 29.214, Flow-Status)
pub status_numbers : map status_number (status_of.EnabledUplink ∷ status_of.EnabledDownlink ∷ status_of.Enabled ∷ status_of.Disabled ∷ status_of.Removed ∷ []) ≡ 0 ∷ 1 ∷ 2 ∷ 3 ∷ 4 ∷ []
status_numbers = refl
