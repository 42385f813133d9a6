-- A gateway that sets hold for the whole call: status, gates, bearer and deciding line, from the bytes of its texts: computed. Assumes nothing.
use Prim.Native.Nat.{ℕ}
use Prim.Native.String.{String}
use mathlib.Core.Path.{◌≡◌, refl}
use mathlib.Core.List.{List, [], ◌∷◌, ◌++◌, map}
use lib.ListN.{replicate}
use Rattle.cursor.specs.Bytes.{bytes}
use Rattle.sdp.specs.Text.{read_text}
use Rattle.flow.specs.declared.Authorised.{Authorised}
use Rattle.flow.specs.declared.Decision.{Decision}
use Rattle.flow.specs.declared.Gates.{Gates}
use Rattle.flow.specs.declared.Held.{Held}
use Rattle.flow.specs.declared.Settings.{Settings}
use Rattle.flow.specs.Before.{before_of}
use Rattle.flow.specs.Derive.{derived}
use Rattle.flow.specs.Session.{fresh_held, held_at}
use Rattle.flow.specs.Gates.{gates_of}
use Rattle.flow.specs.Bearer.{authorised}
use Rattle.flow.specs.Fit.{said}
use Rattle.flow.specs.Deciding.{decision, part_of, deciding_line}
use Rattle.flow.proofs.Computing.{computing}

abbrev settings : Settings
settings = record { media = record { up = 100000; down = 100000 }; rtcp = record { up = 5000; down = 5000 }; pool = record { up = 1000000; down = 1000000 } }

-- direction lines of a text: one of its session section, and one of its media section; "" is none
abbrev Lines : Type 0
Lines = String × String

-- First's texts with such lines
abbrev offer : Lines → List ℕ
offer d = bytes "v=0\n" ++ bytes d.0 ++ bytes "c=IN IP4 192.0.2.1\nm=audio 40000 RTP/AVP 0\nb=AS:64\n" ++ bytes d.1

abbrev answer : Lines → List ℕ
answer d = bytes "v=0\n" ++ bytes d.0 ++ bytes "c=IN IP4 192.0.2.9\nm=audio 50000 RTP/AVP 0\n" ++ bytes d.1

abbrev silent : Lines
silent = ("", "")

-- what a session holds after the exchange; after First before it
abbrev after : ℕ → Held → Lines → Lines → Held
after origin was o a = derived settings origin (before_of was) (said (read_text (offer o))) (said (read_text (answer a)))

abbrev talking : ℕ → Held
talking origin = after origin fresh_held silent silent

-- status and the gates of media up and down
abbrev seen : Held → ℕ × ℕ × ℕ
seen h = ((held_at h 0).status, gates.media.up, gates.media.down) where
  gates : Gates
  gates = gates_of (held_at h 0)

-- the lines of the offer, those of the answer; what is seen then of a call that was talking, by origin 0 and by origin 1
abbrev Case : Type 0
Case = (Lines × Lines) × ((ℕ × ℕ × ℕ) × (ℕ × ℕ × ℕ))

-- "We open both gates on a call that is on hold. .. The session section's direction now stands for a media section without one" (02, 1)
abbrev holds : List Case
holds =
    -- the gateway's hold, answered in the session section, in the media section, and not at all
    ((("a=sendonly\n", ""), ("a=recvonly\n", "")), ((0, 1, 0), (1, 0, 1)))
    ∷ ((("a=sendonly\n", ""), ("", "a=recvonly\n")), ((0, 1, 0), (1, 0, 1)))
    ∷ ((("a=sendonly\n", ""), silent), ((2, 1, 1), (2, 1, 1)))
    -- a hold in the media section, answered by the gateway
    ∷ ((("", "a=sendonly\n"), ("a=recvonly\n", "")), ((0, 1, 0), (1, 0, 1)))
    ∷ ((("a=recvonly\n", ""), ("a=sendonly\n", "")), ((1, 0, 1), (0, 1, 0)))
    -- an offer's session `inactive` decides (NOTE 4) for a section without its own
    ∷ ((("a=inactive\n", ""), ("a=sendrecv\n", "")), ((3, 0, 0), (3, 0, 0)))
    ∷ ((("a=inactive\n", ""), silent), ((3, 0, 0), (3, 0, 0)))
    ∷ ((("a=sendonly\n", "a=inactive\n"), ("a=recvonly\n", "")), ((3, 0, 0), (3, 0, 0)))
    -- .. and an own `sendrecv` beats it
    ∷ ((("a=inactive\n", "a=sendrecv\n"), silent), ((2, 1, 1), (2, 1, 1)))
    ∷ ((("a=inactive\n", "a=sendonly\n"), ("a=inactive\n", "a=recvonly\n")), ((0, 1, 0), (1, 0, 1)))
    -- the same in the answer
    ∷ ((silent, ("a=inactive\n", "")), ((3, 0, 0), (3, 0, 0)))
    ∷ ((silent, ("a=inactive\n", "a=sendrecv\n")), ((2, 1, 1), (2, 1, 1)))
    ∷ ((("a=sendrecv\n", ""), ("a=sendrecv\n", "")), ((2, 1, 1), (2, 1, 1)))
    ∷ []

pub held_both_ways_round :
    map (λ (k : Case). (seen (after 0 (talking 0) k.0.0 k.0.1), seen (after 1 (talking 1) k.0.0 k.0.1))) holds
    ≡ map (λ (k : Case). k.1) holds
unfolding computing
held_both_ways_round = refl

-- the bearer of the gateway's hold: of a call that was talking, which stays described both ways (NOTE 3), and of a fresh one, by both origins;
-- accepted at what is authorised, 17 at one more, up or down
abbrev hold : ℕ → Held → Held
hold origin was = after origin was ("a=sendonly\n", "") ("a=recvonly\n", "")

abbrev asks : Held → ℕ → ℕ → ℕ → Authorised
asks h class up down = authorised h (record { set = 1; class = class; up = up; down = down })

abbrev grants : ℕ → ℕ → ℕ → ℕ → Authorised
grants refusal class up down = record { refusal = refusal; class = class; up = up; down = down }

pub bearer_of_a_hold :
    (asks (hold 0 (talking 0)) 2 105000 67200 ≡ grants 0 2 105000 67200)
    × (asks (hold 0 (talking 0)) 2 105001 67200 ≡ grants 17 2 105000 67200)
    × (asks (hold 1 (talking 1)) 2 67200 105000 ≡ grants 0 2 67200 105000)
    × (asks (hold 1 (talking 1)) 2 67200 105001 ≡ grants 17 2 67200 105000)
    × (asks (hold 0 fresh_held) 4 105000 3200 ≡ grants 0 4 105000 3200)
    × (asks (hold 0 fresh_held) 4 105000 3201 ≡ grants 17 4 105000 3200)
    × (asks (hold 1 fresh_held) 4 3200 105000 ≡ grants 0 4 3200 105000)
    × (asks (hold 1 fresh_held) 4 3201 105000 ≡ grants 17 4 3200 105000)
unfolding computing
bearer_of_a_hold = (refl, refl, refl, refl, refl, refl, refl, refl)

-- The deciding line is the session line of the text that decides. Each offer, a row, with each answer, a column: which text, where the line
-- starts (4 in the session section; 34 an `m=` line after it, 23 without it; then the section's own), and its bytes.
abbrev shown : List ℕ → List ℕ → Decision → ℕ × ℕ × List ℕ
shown o a d = (d.text, d.start, part_of o a d)

abbrev answers : List Lines
answers = silent ∷ ("a=recvonly\n", "") ∷ ("a=sendrecv\n", "") ∷ ("a=inactive\n", "a=recvonly\n") ∷ ("", "a=sendonly\n") ∷ []

abbrev decides : Lines → List (ℕ × ℕ × List ℕ)
decides o = map (λ (a : Lines). shown (offer o) (answer a) (decision (offer o) (answer a) 1)) answers

abbrev answer_decides : List (ℕ × ℕ × List ℕ)
answer_decides =
    (2, 23, bytes "m=audio 50000 RTP/AVP 0")
    ∷ (2, 4, bytes "a=recvonly")
    ∷ (2, 4, bytes "a=sendrecv")
    ∷ (2, 58, bytes "a=recvonly")
    ∷ (2, 47, bytes "a=sendonly")
    ∷ []

abbrev offer_decides : ℕ → List (ℕ × ℕ × List ℕ)
offer_decides start = replicate 5 (1, start, bytes "a=inactive")

pub session_line_decides :
    map decides (silent ∷ ("a=sendonly\n", "") ∷ ("a=inactive\n", "a=sendrecv\n") ∷ ("a=inactive\n", "") ∷ ("a=sendonly\n", "a=inactive\n") ∷ [])
    ≡ answer_decides ∷ answer_decides ∷ answer_decides ∷ offer_decides 4 ∷ offer_decides 66 ∷ []
unfolding computing
session_line_decides = refl

-- Removed as before: the `m=` line with port 0, offer first; and beside it, in CR LF, a component that the session line decides, one by its own
-- line, and one by the offer's
abbrev offered : List ℕ
offered =
    bytes "v=0\r\na=inactive\r\nc=IN IP4 192.0.2.1\r\nm=audio 0 RTP/AVP 0\r\nm=video 40002 RTP/AVP 31\r\na=sendrecv\r\nm=audio 40004 RTP/AVP 0\r\n"
    ++ bytes "m=audio 40006 RTP/AVP 0\r\na=recvonly\r\nm=audio 40008 udp 0\r\na=sendonly\r\n"

abbrev answered : List ℕ
answered =
    bytes "v=0\r\nc=IN IP4 192.0.2.9\r\ns=-\r\na=sendonly\r\nm=audio 0 RTP/AVP 8\r\nm=video 0 RTP/AVP 34\r\nm=audio 50004 RTP/AVP 8\r\na=sendrecv\r\n"
    ++ bytes "m=audio 50006 RTP/AVP 8\r\nm=audio 50008 udp 8\r\na=recvonly\r\n"

pub beside_removed : map (deciding_line offered answered) (1 ∷ 2 ∷ 3 ∷ 4 ∷ 5 ∷ 6 ∷ [])
    ≡ bytes "m=audio 0 RTP/AVP 0"
    ∷ bytes "m=video 0 RTP/AVP 34"
    ∷ bytes "a=inactive"
    ∷ bytes "a=sendonly"
    ∷ bytes "a=recvonly"
    ∷ []
    ∷ []
unfolding computing
beside_removed = refl

-- 8 of either text, with its place and which text failed
pub second_in_a_text :
    (decision (bytes "v=0\na=sendonly\na=sendonly\n") (bytes "v=0\nx\n") 1 ≡ record { refusal = 8; place = 3; failed = 1; text = 2; start = 0; end = 0 })
    × (decision (bytes "v=0\na=sendonly\n") (bytes "v=0\nc=IN IP4 192.0.2.9\na=recvonly\na=inactive\nm=audio 0 udp 0\n") 1
    ≡ record { refusal = 8; place = 4; failed = 2; text = 2; start = 0; end = 0 })
unfolding computing
second_in_a_text = (refl, refl)
