-- Refusals 3, 4 and 5: `m=` lines: computed. Assumes nothing.
use Rattle.sdp.specs.Fault.{fault_number}
use Rattle.sdp.specs.Media.{transport_number, kind_number}
use Rattle.sdp.specs.Direction.{direction_number}
use Rattle.sdp.specs.declared.fault.Fault.TheVariants as fault
use Rattle.sdp.specs.declared.media_line.Kind.TheVariants as kind
use Rattle.sdp.specs.declared.media_line.Transport.TheVariants as transport
use Rattle.sdp.specs.declared.direction.Direction.TheVariants as direction
use Prim.Native.Nat.{ℕ}
use Prim.Native.String.{String}
use mathlib.Core.Path.{◌≡◌, refl}
use mathlib.Core.List.{List, [], ◌∷◌, ◌++◌, map}
use Rattle.cursor.specs.Bytes.{bytes}
use Rattle.sdp.specs.declared.Media.{Media}
use Rattle.sdp.specs.Media.{media_of, fault_of}
use Rattle.sdp.specs.Text.{read_text}
use Rattle.sdp.proofs.Computing.{computing}
use Rattle.sdp.proofs.Cases.{Told, first}

-- a text with an `m=` line of this value, its third line
abbrev with_line : String → List ℕ
with_line v = bytes "v=0\nc=IN IP4 1.2.3.4\nm=" ++ bytes v ++ bytes "\n"

-- "Media kinds: audio, video, application, data, control; any other name is the kind "other"": 1 to 6. Names are exact. "Transport exactly
-- `RTP/AVP` or `udp`": 1 and 2. "Port: 1 to 5 digits": leading zeros are good, and `00000` is 0. A tab is an ordinary byte.
abbrev Read : Type 0
Read = String × ℕ × ℕ × ℕ

abbrev read : Media → ℕ × ℕ × ℕ
read m = (m.kind, m.transport, m.port)

abbrev reads : List Read
reads =
    ("audio 1 RTP/AVP 0", 1, 1, 1)
    ∷ ("video 65534 RTP/AVP 0", 2, 1, 65534)
    ∷ ("application 65535 udp 0", 3, 2, 65535)
    ∷ ("data 00042 udp x/y", 4, 2, 42)
    ∷ ("control 00000 udp 0 8 18 96", 5, 2, 0)
    ∷ ("image 9 RTP/AVP 0\t8", 6, 1, 9)
    ∷ ("Audio 10 udp 0", 6, 2, 10)
    ∷ ("audi 12 udp 0", 6, 2, 12)
    ∷ ("audios 98 udp 0", 6, 2, 98)
    ∷ ("videos 123 udp 0", 6, 2, 123)
    ∷ ("applications 124 udp 0", 6, 2, 124)
    ∷ ("datax 125 udp 0", 6, 2, 125)
    ∷ ("controls 126 udp 0", 6, 2, 126)
    ∷ ("audio\t 1234 RTP/AVP 0", 6, 1, 1234)
    ∷ ("text 11 RTP/AVP 98", 6, 1, 11)
    ∷ ("message 13 udp x", 6, 2, 13)
    ∷ []

pub kinds : map (λ (k : Read). read (first (with_line k.0))) reads ≡ map (λ (k : Read). (k.1, k.2, k.3)) reads
unfolding computing
kinds = refl

-- "Port: 1 to 5 digits, at most 65,535, and at most 65,534 for RTP/AVP." `40000/2` is 3.
pub ports : Told with_line
    (("audio 0 RTP/AVP 0", 0, 0)
    ∷ ("audio 65534 RTP/AVP 0", 0, 0)
    ∷ ("audio 65535 RTP/AVP 0", 3, 3)
    ∷ ("audio 65536 RTP/AVP 0", 3, 3)
    ∷ ("audio 65534 udp 0", 0, 0)
    ∷ ("audio 65535 udp 0", 0, 0)
    ∷ ("audio 65536 udp 0", 3, 3)
    ∷ ("audio 99999 udp 0", 3, 3)
    ∷ ("audio 00001 udp 0", 0, 0)
    ∷ ("audio 000001 udp 0", 3, 3)
    ∷ ("audio 40000/2 RTP/AVP 0", 3, 3)
    ∷ ("audio 9/2 udp 0", 3, 3)
    ∷ ("audio /9 udp 0", 3, 3)
    ∷ ("audio 9: udp 0", 3, 3)
    ∷ ("audio :9 udp 0", 3, 3)
    ∷ ("audio 9x udp 0", 3, 3)
    ∷ ("audio -9 udp 0", 3, 3)
    ∷ ("audio +9 udp 0", 3, 3)
    ∷ ("audio port udp 0", 3, 3)
    ∷ [])
unfolding computing
ports = refl

-- "media, port, transport, at least one format; one space between, no field empty": a field missing or empty at each place, also among the
-- formats, and in place of a space a tab
pub fields : Told with_line
    (("audio 9 udp 0 8", 0, 0)
    ∷ ("", 3, 3)
    ∷ ("audio", 3, 3)
    ∷ ("audio 9", 3, 3)
    ∷ ("audio 9 udp", 3, 3)
    ∷ ("audio ", 3, 3)
    ∷ ("audio 9 ", 3, 3)
    ∷ ("audio 9 udp ", 3, 3)
    ∷ ("audio 9 udp 0 ", 3, 3)
    ∷ (" audio 9 udp 0", 3, 3)
    ∷ ("audio  9 udp 0", 3, 3)
    ∷ ("audio 9  udp 0", 3, 3)
    ∷ ("audio 9 udp  0", 3, 3)
    ∷ ("audio 9 udp 0  8", 3, 3)
    ∷ ("audio 9 udp 0 8 9 10", 0, 0)
    ∷ ("audio 9 RTP/AVP 0 3 4 8 9 18 96 97 101 102 103", 0, 0)
    ∷ ("audio 9 udp 0 8 ", 3, 3)
    ∷ ("audio 9 udp 0 8  10", 3, 3)
    ∷ ("audio 9 udp 0 8 9 ", 3, 3)
    ∷ (" 9 udp 0", 3, 3)
    ∷ ("9 udp 0", 3, 3)
    ∷ ("audio\t9 udp 0", 3, 3)
    ∷ ("audio 9\tudp 0", 3, 3)
    ∷ ("audio 9 udp\t0", 3, 3)
    ∷ [])
unfolding computing
fields = refl

-- "Transport exactly `RTP/AVP` or `udp`", else 4: after all fields and the port were tested for 3, and also where the port is 0.
pub transports : Told with_line
    (("audio 9 RTP/AVP 0", 0, 0)
    ∷ ("audio 9 udp 0", 0, 0)
    ∷ ("audio 9 tcp 0", 4, 3)
    ∷ ("audio 0 tcp 0", 4, 3)
    ∷ ("audio 9 RTP/AV 0", 4, 3)
    ∷ ("audio 9 RTP/AVPF 0", 4, 3)
    ∷ ("audio 9 RTP/SAVP 0", 4, 3)
    ∷ ("audio 9 rtp/avp 0", 4, 3)
    ∷ ("audio 9 ud 0", 4, 3)
    ∷ ("audio 9 udpx 0", 4, 3)
    ∷ ("audio 9 UDP 0", 4, 3)
    ∷ ("image 9 udptl t38", 4, 3)
    ∷ ("message 9 TCP x", 4, 3)
    ∷ ("message 9 TCP/MSRP x", 4, 3)
    ∷ ("audio 65535 tcp 0", 4, 3)
    ∷ ("audio 65536 tcp 0", 3, 3)
    ∷ ("audio 9 tcp", 3, 3)
    ∷ ("audio 9 tcp ", 3, 3)
    ∷ ("audio 9 tcp 0  8", 3, 3)
    ∷ [])
unfolding computing
transports = refl

-- the fault of an `m=` line's value, 0 where there is none
pub faults : map (λ (v : String). fault_of (media_of (bytes v))) ("audio 9 udp 0" ∷ "audio 9 udp" ∷ "audio 9 tcp 0" ∷ []) ≡ 0 ∷ 3 ∷ 4 ∷ []
unfolding computing
faults = refl

-- "8 `m=` lines": eight are read, each into its own place; "No `m=` line is good: zero components."
abbrev seven : List ℕ
seven = bytes "v=0\nc=IN IP4 1.2.3.4\nm=a 1 udp 0\nm=a 2 udp 0\nm=a 3 udp 0\nm=a 4 udp 0\nm=a 5 udp 0\nm=a 6 udp 0\nm=a 7 udp 0\n"

abbrev ports_of : List ℕ → List ℕ
ports_of t = map (λ (m : Media). m.port) (read_text t).media

pub none : ((read_text (bytes "v=0\nc=IN IP4 1.2.3.4\n")).count ≡ 0) × ((read_text (bytes "v=0\n")).count ≡ 0)
unfolding computing
none = (refl, refl)

pub seven_or_eight : ((read_text seven).count ≡ 7)
    × (ports_of seven ≡ 1 ∷ 2 ∷ 3 ∷ 4 ∷ 5 ∷ 6 ∷ 7 ∷ 0 ∷ [])
    × ((read_text (seven ++ bytes "m=a 8 udp 0\n")).count ≡ 8)
    × (ports_of (seven ++ bytes "m=a 8 udp 0\n") ≡ 1 ∷ 2 ∷ 3 ∷ 4 ∷ 5 ∷ 6 ∷ 7 ∷ 8 ∷ [])
unfolding computing
seven_or_eight = (refl, refl, refl, refl)

-- "5 | ninth `m=`". "(5, 3, 4 for `m=`)": a ninth `m=` of good line form is 5 whatever else is wrong with it. Other lines go on.
pub ninth : Told (λ more. seven ++ bytes "m=a 8 udp 0\n" ++ bytes more)
    (("", 0, 0)
    ∷ ("a=sendonly\nb=AS:8\n", 0, 0)
    ∷ ("a=sendonly\nb=AS:x\n", 7, 12)
    ∷ ("m=a 9 udp 0\n", 5, 11)
    ∷ ("a=sendonly\nm=a 9 udp 0\n", 5, 12)
    ∷ ("m=a 0 udp 0\nm=a 0 udp 0\n", 5, 11)
    ∷ ("m=\n", 5, 11)
    ∷ ("m=a 9 udp\n", 5, 11)
    ∷ ("m=a 65536 udp 0\n", 5, 11)
    ∷ ("m=a 9 tcp 0\n", 5, 11)
    ∷ ("m=a 9 udp 0\r\r\n", 2, 11)
    ∷ ("m=a 9 udp 0", 2, 11)
    ∷ [])
unfolding computing
ninth = refl

-- the numbers of the faults of a line, of kinds, transports and directions
pub numbers : (map fault_number (fault.MediaLine ∷ fault.Transport ∷ fault.Ninth ∷ fault.Connection ∷ fault.Bandwidth ∷ fault.Direction ∷ []) ≡ 3 ∷ 4 ∷ 5 ∷ 6 ∷ 7 ∷ 8 ∷ [])
    × (map kind_number (kind.Audio ∷ kind.Video ∷ kind.Application ∷ kind.Data ∷ kind.Control ∷ kind.Other ∷ []) ≡ 1 ∷ 2 ∷ 3 ∷ 4 ∷ 5 ∷ 6 ∷ [])
    × (map transport_number (transport.Rtp ∷ transport.Udp ∷ []) ≡ 1 ∷ 2 ∷ [])
    × (map direction_number (direction.Sendrecv ∷ direction.Sendonly ∷ direction.Recvonly ∷ direction.Inactive ∷ []) ≡ 1 ∷ 2 ∷ 3 ∷ 4 ∷ [])
numbers = (refl, refl, refl, refl)
