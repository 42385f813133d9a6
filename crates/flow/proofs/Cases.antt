-- Exchanges from the bytes of their texts, and what the session then holds: computed. Assumes nothing.
use Prim.Native.Nat.{ℕ}
use mathlib.Core.Path.{◌≡◌, refl}
use mathlib.Core.List.{List, [], ◌∷◌, ◌++◌}
use Rattle.cursor.specs.Bytes.{bytes}
use Rattle.sdp.specs.Text.{read_text}
use Rattle.flow.specs.declared.Settings.{Settings}
use Rattle.flow.specs.declared.Component.{Component}
use Rattle.flow.specs.declared.Held.{Held}
use Rattle.flow.specs.declared.Destinations.{Destinations}
use Rattle.flow.specs.Before.{before_of}
use Rattle.flow.specs.Described.{media_to, rtcp_to}
use Rattle.flow.specs.Derive.{derived}
use Rattle.flow.specs.Session.{fresh_held, held_at}
use Rattle.flow.specs.Bearer.{booked_up, booked_down}
use Rattle.flow.specs.Fit.{said}
use Rattle.flow.proofs.Computing.{computing}

-- the settings of the call file, but for the RTCP default
abbrev settings : ℕ → Settings
settings rtcp =
    record { media = record { up = 100000; down = 100000 }; rtcp = record { up = rtcp; down = rtcp }; pool = record { up = 1000000; down = 1000000 } }

-- First's offer and answer, and more lines
abbrev offer : List ℕ → List ℕ
offer more = bytes "v=0\nc=IN IP4 192.0.2.1\nm=audio 40000 RTP/AVP 0\nb=AS:64\n" ++ more

abbrev answer : List ℕ → List ℕ
answer more = bytes "v=0\nc=IN IP4 192.0.2.9\nm=audio 50000 RTP/AVP 0\n" ++ more

-- what a session holds after an exchange of two texts
abbrev after_texts : ℕ → ℕ → Held → List ℕ → List ℕ → Held
after_texts rtcp origin was o a = derived (settings rtcp) origin (before_of was) (said (read_text o)) (said (read_text a))

abbrev first : Held
first = after_texts 5000 0 fresh_held (offer []) (answer [])

abbrev one : Held → Component
one held = held_at held 0

-- "First: booked 105,000 up, 67,200 down, class 2."
pub case_a : (booked_up (one first) ≡ 105000) × (booked_down (one first) ≡ 67200) × ((one first).class ≡ 2) × (first.kept ≡ 2)
    × ((one first).status ≡ 2) × (first.count ≡ 1)
unfolding computing
case_a = (refl, refl, refl, refl, refl, refl)

-- "Else the RTCP default.": it is no twentieth of the media default.
pub rtcp_default : booked_up (one (after_texts 7000 0 fresh_held (offer []) (answer []))) ≡ 107000
unfolding computing
rtcp_default = refl

-- First, then the offer sendonly, the answer recvonly: "A component that had both stays with both" (NOTE 3).
abbrev held : Held
held = after_texts 5000 0 first (offer (bytes "a=sendonly\n")) (answer (bytes "a=recvonly\n"))

pub case_h : ((one held).status ≡ 0) × (booked_up (one held) ≡ 105000) × (booked_down (one held) ≡ 67200) × ((one held).class ≡ 2)
unfolding computing
case_h = (refl, refl, refl, refl)

-- Addresses and ports, in lines that end in CR LF: of each text the session's address is its 192.0.2 one, and its second component has its own; the
-- third is by udp, the fourth was removed.
abbrev asked : List ℕ
asked =
    bytes "v=0\r\nc=IN IP4 192.0.2.1\r\n"
    ++ bytes "m=audio 40000 RTP/AVP 0\r\n"
    ++ bytes "m=video 40002 RTP/AVP 31\r\nc=IN IP4 198.51.100.2\r\na=sendonly\r\n"
    ++ bytes "m=application 40004 udp x\r\n"
    ++ bytes "m=audio 40006 RTP/AVP 0\r\n"

abbrev told : List ℕ
told =
    bytes "v=0\r\nc=IN IP4 192.0.2.9\r\n"
    ++ bytes "m=audio 50000 RTP/AVP 0\r\n"
    ++ bytes "m=video 50002 RTP/AVP 31\r\nc=IN IP4 203.0.113.10\r\na=recvonly\r\n"
    ++ bytes "m=application 50004 udp x\r\n"
    ++ bytes "m=audio 0 RTP/AVP 0\r\n"

-- the addresses as numbers: 192.0.2.1 and 198.51.100.2 of the offer, 192.0.2.9 and 203.0.113.10 of the answer
abbrev offers : ℕ
offers = 3221225985

abbrev offers_own : ℕ
offers_own = 3325256706

abbrev answers : ℕ
answers = 3221225993

abbrev answers_own : ℕ
answers_own = 3405803786

-- where media goes up and down, and RTCP up and down
abbrev Ends : Type 0
Ends = Destinations × Destinations

abbrev ends : Held → List Ends
ends h = at 0 ∷ at 1 ∷ at 2 ∷ at 3 ∷ at 4 ∷ [] where
  at : ℕ → Ends
  at j = (media_to (held_at h j), rtcp_to (held_at h j))

abbrev to : ℕ → ℕ → ℕ → ℕ → Destinations
to a p b q = record { up = record { address = a; port = p }; down = record { address = b; port = q } }

abbrev nowhere : Destinations
nowhere = to 0 0 0 0

-- "Uplink destination is address and port of the downlink SDP; downlink destination those of the uplink SDP; zeros where not described. A live RTP/AVP
-- component has an RTCP flow, described both ways; each RTCP port is one above that text's own port.": the handset offered, and the network did
pub goes_to :
    (ends (after_texts 5000 0 fresh_held asked told)
    ≡ ((to answers 50000 offers 40000, to answers 50001 offers 40001)
    ∷ (to answers_own 50002 0 0, to answers_own 50003 offers_own 40003)
    ∷ (to answers 50004 offers 40004, nowhere)
    ∷ (nowhere, nowhere)
    ∷ (nowhere, nowhere)
    ∷ []))
    × (ends (after_texts 5000 1 fresh_held asked told)
    ≡ ((to offers 40000 answers 50000, to offers 40001 answers 50001)
    ∷ (to 0 0 answers_own 50002, to offers_own 40003 answers_own 50003)
    ∷ (to offers 40004 answers 50004, nowhere)
    ∷ (nowhere, nowhere)
    ∷ (nowhere, nowhere)
    ∷ []))
unfolding computing
goes_to = (refl, refl)
