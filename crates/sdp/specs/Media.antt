-- "`m=`: media, port, transport, at least one format; one space between, no field empty. Port: 1 to 5 digits, at most 65,535, and at
-- most 65,534 for RTP/AVP. Media kinds: audio, video, application, data, control; any other name is the kind "other". Transport
-- exactly `RTP/AVP` or `udp`."
use Rattle.std.specs.Prelude.{Option, Some, None, Result, Ok, Err, MatchResult, ◌≡◌, ◌<◌, ◌⊎◌}
use Rattle.sdp.specs.declared.Unnamed.{Unnamed}
use Rattle.sdp.specs.declared.fault.Fault.{Fault}
use Rattle.sdp.specs.declared.fault.Fault.TheVariants as fault
use Rattle.sdp.specs.declared.media_line.MediaLine.{MediaLine}
use Rattle.std.specs.Prelude.{ℕ, List, cond, ltb}
use Rattle.cursor.specs.Bytes.{is_word, split, bytes}
use Rattle.sdp.specs.Fault.{fault_number}
use Rattle.cursor.specs.Parts.{on_field, on_number, some_fields}
use Rattle.sdp.specs.declared.media_line.Kind.{Kind}
use Rattle.sdp.specs.declared.media_line.Kind.TheVariants as kind
use Rattle.sdp.specs.declared.media_line.Transport.{Transport}
use Rattle.sdp.specs.declared.media_line.Transport.TheVariants as transport

unfoldable pub kind_of : List ℕ → Kind
kind_of w =
    cond (is_word (bytes "audio") w) kind.Audio
    (cond (is_word (bytes "video") w) kind.Video
    (cond (is_word (bytes "application") w) kind.Application
    (cond (is_word (bytes "data") w) kind.Data
    (cond (is_word (bytes "control") w) kind.Control kind.Other))))

unfoldable pub transport_of : List ℕ → Option Transport
transport_of w = cond (is_word (bytes "RTP/AVP") w) (Some transport.Rtp) (cond (is_word (bytes "udp") w) (Some transport.Udp) None)

-- "Port: .. at most 65,535, and at most 65,534 for RTP/AVP"
abbrev pub most_udp_port : ℕ
most_udp_port = 65535

abbrev pub most_rtp_port : ℕ
most_rtp_port = 65534

-- the numbers of a description
abbrev pub audio_kind : ℕ
audio_kind = 1

abbrev pub video_kind : ℕ
video_kind = 2

abbrev pub application_kind : ℕ
application_kind = 3

abbrev pub data_kind : ℕ
data_kind = 4

abbrev pub control_kind : ℕ
control_kind = 5

abbrev pub other_kind : ℕ
other_kind = 6

abbrev pub kind_number : Kind → ℕ
kind_number kind.Audio = audio_kind
kind_number kind.Video = video_kind
kind_number kind.Application = application_kind
kind_number kind.Data = data_kind
kind_number kind.Control = control_kind
kind_number kind.Other = other_kind

abbrev pub rtp_avp : ℕ
rtp_avp = 1

abbrev pub udp : ℕ
udp = 2

abbrev pub transport_number : Transport → ℕ
transport_number transport.Rtp = rtp_avp
transport_number transport.Udp = udp

-- the result is the kind, or the transport, of this number, or the number again where it is none's
abbrev pub NamesKind : ℕ → Result Kind Unnamed → Type 0
NamesKind n r = MatchResult r (λ k. kind_number k ≡ n) (λ e. (e.0 ≡ n) × ((n ≡ 0) ⊎ (other_kind < n)))

abbrev pub NamesTransport : ℕ → Result Transport Unnamed → Type 0
NamesTransport n r = MatchResult r (λ t. transport_number t ≡ n) (λ e. (e.0 ≡ n) × ((n ≡ 0) ⊎ (udp < n)))

-- the fields and the port are good: 4 if the transport is unknown, 3 if the port is too high for RTP/AVP
unfoldable pub verdict : Kind → ℕ → Option Transport → Result MediaLine Fault
verdict k p (Some transport.Rtp) = cond (ltb most_rtp_port p) (Err fault.MediaLine) (Ok (record { kind = kind_number k; transport = rtp_avp; port = p }))
verdict k p (Some transport.Udp) = Ok (record { kind = kind_number k; transport = udp; port = p })
verdict k p None = Err fault.Transport

-- the value of an `m=` line, cut at each space
abbrev pub space : ℕ
space = 32

unfoldable pub media_of : List ℕ → Result MediaLine Fault
media_of v =
    on_field (split space v) (Err fault.MediaLine) λ name fields.
    on_number 5 most_udp_port fields (Err fault.MediaLine) λ port fields'.
    on_field fields' (Err fault.MediaLine) λ transport formats.
    cond (some_fields formats) (verdict (kind_of name) port (transport_of transport)) (Err fault.MediaLine)

-- the fault's number, 0 where there is none
abbrev pub fault_of : Result MediaLine Fault → ℕ
fault_of (Ok m) = 0
fault_of (Err k) = fault_number k
