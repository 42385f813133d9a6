-- Deciding line: computed. Assumes nothing.
use Prim.Native.Nat.{ℕ}
use mathlib.Core.Path.{◌≡◌, refl}
use mathlib.Core.List.{List, [], ◌∷◌, ◌++◌, map}
use lib.ListN.{length, replicate}
use Rattle.cursor.specs.Bytes.{bytes}
use Rattle.sdp.specs.Direction.{sendrecv, sendonly, recvonly, inactive}
use Rattle.sdp.specs.Text.{read_text}
use Rattle.sdp.specs.declared.Media.{Media}
use Rattle.sdp.specs.declared.Spot.{Spot}
use Rattle.sdp.specs.declared.Text.{Text}
use Rattle.flow.specs.declared.Decision.{Decision}
use Rattle.flow.specs.Deciding.{deciding_spot, decision_of, decision, part_of, deciding_line}
use Rattle.flow.proofs.Computing.{computing}
use Rattle.flow.proofs.CasesStatus.{talk}

-- the offer: each component with its `m=` line and its direction line, CR LF
abbrev offer : List ℕ
offer =
    bytes "v=0\r\nc=IN IP4 192.0.2.1\r\n"
    ++ bytes "m=audio 0 RTP/AVP 0\r\na=inactive\r\n"
    ++ bytes "m=video 40002 RTP/AVP 31\r\na=inactive\r\n"
    ++ bytes "m=audio 40004 RTP/AVP 0\r\nb=AS:64\r\na=inactive\r\n"
    ++ bytes "m=audio 40006 RTP/AVP 0\r\na=sendonly\r\n"
    ++ bytes "m=audio 40008 udp 0\r\na=sendonly\r\n"
    ++ bytes "m=audio 40010 RTP/AVP 0\r\n"
    ++ bytes "m=audio 40012 RTP/AVP 0\r\n"
    ++ bytes "m=audio 40014 RTP/AVP 0\r\na=inactive\r\n"

abbrev answer : List ℕ
answer =
    bytes "v=0\r\nc=IN IP4 192.0.2.9\r\n"
    ++ bytes "m=audio 0 RTP/AVP 8\r\na=sendrecv\r\n"
    ++ bytes "m=video 0 RTP/AVP 34\r\na=recvonly\r\n"
    ++ bytes "m=audio 50004 RTP/AVP 8\r\na=sendonly\r\n"
    ++ bytes "m=audio 50006 RTP/AVP 8\r\nb=AS:64\r\na=recvonly\r\n"
    ++ bytes "m=audio 50008 udp 8\r\n"
    ++ bytes "m=audio 50010 RTP/AVP 8\r\na=sendrecv\r\n"
    ++ bytes "m=audio 50012 RTP/AVP 8\r\na=inactive\r\n"
    ++ bytes "m=audio 50014 RTP/AVP 8\r\n"

-- the deciding lines of two texts, and in which text each stands
abbrev lines : Text → Text → List ℕ → List (ℕ × List ℕ)
lines o a [] = []
lines o a (n ∷ ns) = ((decision_of o a n).text, part_of offer answer (decision_of o a n)) ∷ lines o a ns

-- "when removed, the `m=` line with port 0, offer first; else the deciding direction line; where the answer decides without one, its `m=` line";
-- "without its ending"
pub deciding_lines : lines (read_text offer) (read_text answer) (1 ∷ 2 ∷ 3 ∷ 4 ∷ 5 ∷ 6 ∷ 7 ∷ 8 ∷ [])
    ≡ ((1, bytes "m=audio 0 RTP/AVP 0")
    ∷ (2, bytes "m=video 0 RTP/AVP 34")
    ∷ (1, bytes "a=inactive")
    ∷ (2, bytes "a=recvonly")
    ∷ (2, bytes "m=audio 50008 udp 8")
    ∷ (2, bytes "a=sendrecv")
    ∷ (2, bytes "a=inactive")
    ∷ (1, bytes "a=inactive")
    ∷ [])
unfolding computing
deciding_lines = refl

-- the same by where the lines stand, no two figures alike: in the offer an `m=` line from 10 to 20 and a direction line from 30 to 40 or none; in the
-- answer 50 to 60 and 70 to 80 or none
abbrev spot : ℕ → ℕ → ℕ → ℕ → Spot
spot start end from to = record { start = start; end = end; from = from; to = to }

abbrev stands : ℕ → ℕ → ℕ → Decision
stands text start end = record { refusal = 0; place = 0; failed = 0; text = text; start = start; end = end }

pub deciding_spots :
    (deciding_spot (talk sendrecv 0) (talk sendrecv 0) (spot 10 20 30 40) (spot 50 60 70 80) ≡ stands 1 10 20)
    × (deciding_spot (talk inactive 9) (talk sendrecv 0) (spot 10 20 30 40) (spot 50 60 70 80) ≡ stands 2 50 60)
    × (deciding_spot (talk inactive 1) (talk sendonly 1) (spot 10 20 30 40) (spot 50 60 70 80) ≡ stands 1 30 40)
    × (deciding_spot (talk sendrecv 1) (talk inactive 1) (spot 10 20 0 0) (spot 50 60 70 80) ≡ stands 2 70 80)
    × (deciding_spot (talk sendonly 9) (talk sendrecv 9) (spot 10 20 30 40) (spot 50 60 0 0) ≡ stands 2 50 60)
unfolding computing
deciding_spots = (refl, refl, refl, refl, refl)

-- Where the deciding line starts, by each direction of the offer, a row, and of the answer, a column, at these ports: 10 the offer's `m=` line, 30 its
-- direction line, 50 the answer's `m=` line, 70 its direction line where it has one. A direction line of the session section stands before the
-- `m=` line: 3 the offer's, 43 the answer's
abbrev directions : List ℕ
directions = sendrecv ∷ sendonly ∷ recvonly ∷ inactive ∷ []

abbrev starts : ℕ → ℕ → Spot → Spot → List (List ℕ)
starts o a in_offer in_answer = map (λ d. map (λ e. (deciding_spot (talk d o) (talk e a) in_offer in_answer).start) directions) directions

abbrev its_own : Spot
its_own = spot 10 20 30 40

abbrev sessions : Spot
sessions = spot 10 20 3 8

abbrev by_the_answer : ℕ → ℕ → List (List ℕ)
by_the_answer answers offers = replicate 3 (replicate 4 answers) ++ (replicate 4 offers ∷ [])

pub every_deciding_spot :
    (map (starts 9 9 its_own) (spot 50 60 70 80 ∷ spot 50 60 43 48 ∷ spot 50 60 0 0 ∷ []) ≡ by_the_answer 70 30 ∷ by_the_answer 43 30 ∷ by_the_answer 50 30 ∷ [])
    × (map (starts 9 9 sessions) (spot 50 60 70 80 ∷ spot 50 60 43 48 ∷ spot 50 60 0 0 ∷ []) ≡ by_the_answer 70 3 ∷ by_the_answer 43 3 ∷ by_the_answer 50 3 ∷ [])
    × (map (λ s. map (starts 9 0 s) (spot 50 60 70 80 ∷ spot 50 60 43 48 ∷ spot 50 60 0 0 ∷ [])) (its_own ∷ sessions ∷ [])
    ≡ replicate 2 (replicate 3 (replicate 4 (replicate 4 50))))
    × (map (λ s. map (starts 0 9 s) (spot 50 60 70 80 ∷ spot 50 60 43 48 ∷ spot 50 60 0 0 ∷ [])) (its_own ∷ sessions ∷ [])
    ≡ replicate 2 (replicate 3 (replicate 4 (replicate 4 10))))
    × (map (λ s. map (starts 0 0 s) (spot 50 60 70 80 ∷ spot 50 60 43 48 ∷ spot 50 60 0 0 ∷ [])) (its_own ∷ sessions ∷ [])
    ≡ replicate 2 (replicate 3 (replicate 4 (replicate 4 10))))
unfolding computing
every_deciding_spot = (refl, refl, refl, refl, refl)

-- two texts with these lines after `v=0`, and a component
abbrev decides : List ℕ → List ℕ → ℕ → Decision
decides o a n = decision (bytes "v=0\r\n" ++ o) (bytes "v=0\r\n" ++ a) n

abbrev audio : List ℕ
audio = bytes "m=audio 0 RTP/AVP 0\r\n"

abbrev video : List ℕ
video = bytes "m=video 0 RTP/AVP 0\r\n"

-- "the number, the place and which text failed (1 offer, 2 answer, else 0)"; "an empty part of the answer"
abbrev refused : ℕ → ℕ → ℕ → Decision
refused number place failed = record { refusal = number; place = place; failed = failed; text = 2; start = 0; end = 0 }

-- "Order: offer text, answer text, 15, 10."
pub undecided :
    (decides (audio ++ bytes "c=x\r\n") (bytes "m=x\r\n") 0 ≡ refused 6 3 1)
    × (decides audio (bytes "m=x\r\n") 0 ≡ refused 3 2 2)
    × (decides audio [] 0 ≡ refused 15 0 0)
    × (decides (audio ++ audio) (audio ++ video) 0 ≡ refused 15 2 0)
    × (decides audio video 2 ≡ refused 15 1 0)
    × (decides audio audio 0 ≡ refused 10 0 0)
    × (decides audio audio 1 ≡ stands 1 5 24)
    × (decides audio audio 2 ≡ refused 10 0 0)
unfolding computing
undecided = (refl, refl, refl, refl, refl, refl, refl, refl)

-- a text as it is read: refused, or these descriptions with spots from 10 and from 50 on. 1, "text too long", is a refusal as the others are
abbrev unread : ℕ → ℕ → Text
unread number place = record { refusal = number; place = place; count = 0; media = []; spots = [] }

abbrev read : List Media → List Spot → Text
read media spots = record { refusal = 0; place = 0; count = length media; media = media; spots = spots }

abbrev one : Text
one = read (talk sendrecv 9 ∷ talk sendrecv 9 ∷ []) (spot 1 2 3 4 ∷ spot 10 20 30 40 ∷ [])

abbrev two : Text
two = read (talk sendrecv 0 ∷ talk inactive 9 ∷ []) (spot 5 6 7 8 ∷ spot 50 60 70 80 ∷ [])

pub decided_as_read :
    (decision_of (unread 1 0) (unread 3 7) 1 ≡ refused 1 0 1)
    × (decision_of one (unread 1 0) 1 ≡ refused 1 0 2)
    × (map (decision_of one two) (0 ∷ 1 ∷ 2 ∷ 3 ∷ []) ≡ (refused 10 0 0 ∷ stands 2 5 6 ∷ stands 2 70 80 ∷ refused 10 0 0 ∷ []))
    × (decision_of two one 2 ≡ refused 15 1 0)
unfolding computing
decided_as_read = (refl, refl, refl, refl)

-- the bytes from start to before end, of the offer or of the answer
pub parts : map (part_of (bytes "offer") (bytes "ANSWER")) (stands 1 1 3 ∷ stands 2 1 3 ∷ stands 2 0 6 ∷ refused 10 0 0 ∷ [])
    ≡ (bytes "ff" ∷ bytes "NS" ∷ bytes "ANSWER" ∷ [] ∷ [])
unfolding computing
parts = refl

pub whole_lines : (deciding_line (bytes "v=0\r\nm=audio 0 RTP/AVP 0\r\n") (bytes "v=0\r\nm=audio 0 RTP/AVP 8\r\n") 1 ≡ bytes "m=audio 0 RTP/AVP 0")
    × (deciding_line (bytes "v=0\r\nc=IN IP4 192.0.2.1\r\nm=audio 9 udp 0\r\n") (bytes "v=0\r\nm=audio 0 udp 8\r\n") 1 ≡ bytes "m=audio 0 udp 8")
    × (deciding_line (bytes "v=0\r\n") (bytes "v=0\r\n") 1 ≡ [])
unfolding computing
whole_lines = (refl, refl, refl)
