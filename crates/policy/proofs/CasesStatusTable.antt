-- The table of the status: computed. Assumes nothing.
use Prim.Native.Nat.{ℕ, ◌+◌, ◌-◌}
use mathlib.Core.Path.{◌≡◌, refl}
use mathlib.Core.List.{List, [], ◌∷◌, ◌++◌, map}
use Rattle.std.specs.Prelude.{Option, Some, None, option_map}
use mathlib.Core.Bool.{cond}
use lib.ListN.{get_or, set, take, drop, replicate}
use Rattle.sdp.specs.Direction.{sendrecv, sendonly, recvonly, inactive}
use Rattle.sdp.specs.declared.direction.Direction.TheVariants.{Sendrecv, Sendonly, Recvonly, Inactive}
use Rattle.flow.specs.declared.status.Status.TheVariants.{EnabledUplink}
use Rattle.flow.specs.Session.{status_number}
use Rattle.flow.specs.Status.{is_removed}
use Rattle.flow.proofs.CasesStatus.{talk}
use Rattle.policy.specs.declared.status_table.Case.{Case}
use Rattle.policy.specs.declared.status_table.Port.{Port}
use Rattle.policy.specs.declared.status_table.Port.TheVariants.{Zero, NotZero}
use Rattle.policy.specs.declared.status_table.Sdp.{Sdp}
use Rattle.policy.specs.declared.status_table.Sdp.TheVariants.{Uplink, Downlink}
use Rattle.policy.specs.declared.status_table.StatusRow.{StatusRow}
use Rattle.policy.specs.StatusTable.{row, rows, met, fits, status_by, port_of, sdp_of, counts_as, case_of}

-- which rows fit, by their numbers from n on
abbrev which : List StatusRow → ℕ → Case → List ℕ
which [] n c = []
which (r ∷ rs) n c = cond (fits r c) (n ∷ which rs (n + 1) c) (which rs (n + 1) c)

abbrev directions : List ℕ
directions = recvonly ∷ sendonly ∷ inactive ∷ sendrecv ∷ []

-- the number of the status by a table
abbrev number_by : List StatusRow → Case → Option ℕ
number_by rs c = option_map status_number (status_by rs c)

-- the rows that fit each direction in this SDP
abbrev fitting : Port → Sdp → List (List ℕ)
fitting port sdp =
    map (λ direction. which rows 1 (record { port = port; direction = direction; sdp = sdp })) (Recvonly ∷ Sendonly ∷ Inactive ∷ Sendrecv ∷ [])

-- Every case there is, and the rows that fit it: the first decides. Two rows fit one case only where one of them is row 1 or row 7.
pub every_case :
    (fitting NotZero Uplink ≡ (2 ∷ 7 ∷ []) ∷ (4 ∷ 7 ∷ []) ∷ (6 ∷ 7 ∷ []) ∷ (7 ∷ []) ∷ [])
    × (fitting NotZero Downlink ≡ (3 ∷ 7 ∷ []) ∷ (5 ∷ 7 ∷ []) ∷ (6 ∷ 7 ∷ []) ∷ (7 ∷ []) ∷ [])
    × (fitting Zero Uplink ≡ (1 ∷ 2 ∷ 7 ∷ []) ∷ (1 ∷ 4 ∷ 7 ∷ []) ∷ (1 ∷ 6 ∷ 7 ∷ []) ∷ (1 ∷ 7 ∷ []) ∷ [])
    × (fitting Zero Downlink ≡ (1 ∷ 3 ∷ 7 ∷ []) ∷ (1 ∷ 5 ∷ 7 ∷ []) ∷ (1 ∷ 6 ∷ 7 ∷ []) ∷ (1 ∷ 7 ∷ []) ∷ [])
unfolding rows fits met
every_case = (refl, refl, refl, refl)

-- Which text decides, and which SDP it is (NOTE 5, NOTE 8): an inactive offer, else the answer.
pub which_text :
    (map (λ origin. (case_of origin (talk inactive 7) (talk sendonly 8)).sdp) (0 ∷ 1 ∷ []) ≡ Uplink ∷ Downlink ∷ [])
    × (map (λ origin. (case_of origin (talk sendonly 7) (talk inactive 8)).sdp) (0 ∷ 1 ∷ []) ≡ Downlink ∷ Uplink ∷ [])
    × ((case_of 0 (talk inactive 7) (talk sendonly 8)).direction ≡ Inactive)
    × ((case_of 0 (talk sendonly 7) (talk recvonly 8)).direction ≡ Recvonly)
unfolding case_of port_of is_removed sdp_of counts_as
which_text = (refl, refl, refl, refl)

-- a row by its number, and an origin, direction and port of the offer and of the answer that it decides
abbrev Example : Type 0
Example = ℕ × ℕ × (ℕ × ℕ) × (ℕ × ℕ)

abbrev asked : Example → Case
asked k = case_of k.1 (talk k.2.0 k.2.1) (talk k.3.0 k.3.1)

-- Where the network offered, the answer is the uplink SDP.
abbrev examples : List Example
examples =
    (1, 0, (sendrecv, 9), (sendrecv, 0))
    ∷ (2, 1, (sendrecv, 9), (recvonly, 9))
    ∷ (3, 0, (sendonly, 9), (recvonly, 9))
    ∷ (4, 1, (recvonly, 9), (sendonly, 9))
    ∷ (5, 0, (sendrecv, 9), (sendonly, 9))
    ∷ (6, 1, (inactive, 9), (sendrecv, 9))
    ∷ (7, 0, (sendrecv, 9), (sendrecv, 9))
    ∷ []

abbrev without : ℕ → List StatusRow
without n = take (n - 1) rows ++ drop n rows

-- No row is dead: each decides its case, and without it another row would, or none.
pub no_row_is_dead :
    (map (λ (k : Example). get_or (which rows 1 (asked k)) 0 0) examples ≡ 1 ∷ 2 ∷ 3 ∷ 4 ∷ 5 ∷ 6 ∷ 7 ∷ [])
    × (map (λ (k : Example). number_by rows (asked k)) examples ≡ Some 4 ∷ Some 1 ∷ Some 0 ∷ Some 0 ∷ Some 1 ∷ Some 3 ∷ Some 2 ∷ [])
    × (map (λ (k : Example). number_by (without k.0) (asked k)) examples ≡ Some 2 ∷ Some 2 ∷ Some 2 ∷ Some 2 ∷ Some 2 ∷ Some 2 ∷ None ∷ [])
unfolding rows fits met status_by case_of port_of is_removed sdp_of counts_as
no_row_is_dead = (refl, refl, refl)

-- for each other row an exchange with port 0 that it fits too
abbrev removals : List Example
removals =
    (2, 1, (sendrecv, 9), (recvonly, 0))
    ∷ (3, 0, (sendonly, 9), (recvonly, 0))
    ∷ (4, 1, (recvonly, 0), (sendonly, 9))
    ∷ (5, 0, (sendrecv, 0), (sendonly, 9))
    ∷ (6, 1, (inactive, 0), (sendrecv, 9))
    ∷ (7, 0, (sendrecv, 9), (sendrecv, 0))
    ∷ []

-- two rows in each other's place
abbrev exchanged : ℕ → ℕ → List StatusRow
exchanged m n = set (set rows (m - 1) (get_or rows (n - 1) (row None None None EnabledUplink))) (n - 1) (get_or rows (m - 1) (row None None None EnabledUplink))

-- The row of port 0 stands before every other,
pub port_0_first :
    (map (λ (k : Example). number_by rows (asked k)) removals ≡ replicate 6 (Some 4))
    × (map (λ (k : Example). number_by (exchanged 1 k.0) (asked k)) removals ≡ Some 1 ∷ Some 0 ∷ Some 0 ∷ Some 1 ∷ Some 3 ∷ Some 2 ∷ [])
unfolding rows fits met status_by case_of port_of is_removed sdp_of counts_as
port_0_first = (refl, refl)

-- and the last after every other: with the last in its place no row before it keeps its example.
pub else_last : map (λ (k : Example). number_by (exchanged k.0 7) (asked k)) (take 6 examples) ≡ replicate 6 (Some 2)
unfolding rows fits met status_by case_of port_of is_removed sdp_of counts_as
else_last = refl

-- the status by each direction of the offer, a line, and of the answer, a column; by these ports
abbrev by_directions : ℕ → ℕ → ℕ → List (List (Option ℕ))
by_directions origin o a =
    map (λ in_offer. map (λ in_answer. number_by rows (case_of origin (talk in_offer o) (talk in_answer a))) directions) directions

-- All of them: recvonly, sendonly, inactive, sendrecv.
pub every_status_by_the_table :
    (by_directions 0 7 8
    ≡ (Some 0 ∷ Some 1 ∷ Some 3 ∷ Some 2 ∷ []) ∷ (Some 0 ∷ Some 1 ∷ Some 3 ∷ Some 2 ∷ []) ∷ replicate 4 (Some 3) ∷ (Some 0 ∷ Some 1 ∷ Some 3 ∷ Some 2 ∷ []) ∷ [])
    × (by_directions 1 7 8
    ≡ (Some 1 ∷ Some 0 ∷ Some 3 ∷ Some 2 ∷ []) ∷ (Some 1 ∷ Some 0 ∷ Some 3 ∷ Some 2 ∷ []) ∷ replicate 4 (Some 3) ∷ (Some 1 ∷ Some 0 ∷ Some 3 ∷ Some 2 ∷ []) ∷ [])
    × (by_directions 0 0 8 ≡ replicate 4 (replicate 4 (Some 4)))
    × (by_directions 0 7 0 ≡ replicate 4 (replicate 4 (Some 4)))
    × (by_directions 1 0 8 ≡ replicate 4 (replicate 4 (Some 4)))
    × (by_directions 1 7 0 ≡ replicate 4 (replicate 4 (Some 4)))
unfolding rows fits met status_by case_of port_of is_removed sdp_of counts_as
every_status_by_the_table = (refl, refl, refl, refl, refl, refl)

-- A number that no text gives counts as recvonly in an answer, and in an offer as anything but inactive.
pub unsaid :
    (map (λ n. number_by rows (case_of 0 (talk sendrecv 7) (talk n 8))) (0 ∷ 5 ∷ 65535 ∷ []) ≡ replicate 3 (Some 0))
    × (map (λ n. number_by rows (case_of 1 (talk sendrecv 7) (talk n 8))) (0 ∷ 5 ∷ 65535 ∷ []) ≡ replicate 3 (Some 1))
    × (map (λ n. number_by rows (case_of 0 (talk n 7) (talk sendrecv 8))) (0 ∷ 5 ∷ 65535 ∷ []) ≡ replicate 3 (Some 2))
unfolding rows fits met status_by case_of port_of is_removed sdp_of counts_as
unsaid = (refl, refl, refl)
