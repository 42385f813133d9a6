-- The ranges of what a text gives. "Ranges for 19: .. each field of an open offer what a text can give."
use Rattle.std.specs.Prelude.{ℕ, ◌≤◌, ◌<◌, ◌≡◌, Bool, cond, ◌&&◌, ◌||◌, leb, eqb, length, get_or, replicate}
use Rattle.sdp.specs.Bandwidth.{most_rate}
use Rattle.sdp.specs.Direction.{sendrecv, inactive}
use Rattle.sdp.specs.Media.{audio_kind, other_kind, rtp_avp, udp, most_rtp_port, most_udp_port}
use Rattle.sdp.specs.Section.{no_media, no_spot}
use Rattle.sdp.specs.declared.Address.{Address}
use Rattle.sdp.specs.declared.Media.{Media}
use Rattle.sdp.specs.declared.Requested.{Requested}
use Rattle.sdp.specs.declared.Spot.{Spot}
use Rattle.sdp.specs.declared.Text.{Text}

-- what may be absent: 1 and a figure to `most`, or 0 and 0. "`c=IN IP4 a.b.c.d`: four numbers 0-255", one number of 32 bits; the requested
-- rate, as AS in bit/s or TIAS gives it, RS and RR: "(bit/s, at most 4,294,967,295)"
pub record Given (most given n : ℕ) : Type 0 where
  pub flag : given ≤ 1
  pub figure : n ≤ most
  pub absent : given ≡ 0 → n ≡ 0

abbrev pub most_address : ℕ
most_address = 4294967295

abbrev pub KnownAddress : Address → Type 0
KnownAddress a = Given most_address a.known a.bits

abbrev pub GivenRate : Requested → Type 0
GivenRate r = Given most_rate r.given r.bits

-- "Media kinds: audio, video, application, data, control; any other name is the kind "other". Transport exactly `RTP/AVP` or `udp`."
-- "Direction: `a=sendrecv`, `sendonly`, `recvonly`, `inactive` .. none means sendrecv." "Port: .. at most 65,535, and at most 65,534 for
-- RTP/AVP."
pub record MediaRange (m : Media) : Type 0 where
  pub kind : (audio_kind ≤ m.kind) × (m.kind ≤ other_kind)
  pub transport : (rtp_avp ≤ m.transport) × (m.transport ≤ udp)
  pub direction : (sendrecv ≤ m.direction) × (m.direction ≤ inactive)
  pub port : m.port ≤ most_udp_port
  pub rtp : m.transport ≡ rtp_avp → m.port ≤ most_rtp_port
  pub address : Given most_address m.known m.address
  pub requested : Given most_rate m.requestedgiven m.requested
  pub rs : Given most_rate m.rsgiven m.rs
  pub rr : Given most_rate m.rrgiven m.rr

-- the same as tests, for 19
abbrev pub from1 : ℕ → ℕ → Bool
from1 most n = leb 1 n && leb n most

-- the largest port: 65,534 of RTP/AVP, else 65,535
abbrev pub most_port : ℕ → ℕ
most_port transport = cond (eqb transport rtp_avp) most_rtp_port most_udp_port

abbrev pub given_in : ℕ → ℕ → ℕ → Bool
given_in most given n = leb given 1 && (leb n most && (eqb given 1 || eqb n 0))

unfoldable pub media_in : Media → Bool
media_in m =
    from1 other_kind m.kind && (from1 udp m.transport && (from1 inactive m.direction && (leb m.port (most_port m.transport)
    && (given_in most_address m.known m.address && (given_in most_rate m.requestedgiven m.requested
    && (given_in most_rate m.rsgiven m.rs && given_in most_rate m.rrgiven m.rr))))))

-- "An unused part of a row .. is all zeros"
unfoldable pub is_no_media : Media → Bool
is_no_media m =
    eqb m.kind 0 && (eqb m.transport 0 && (eqb m.direction 0 && (eqb m.port 0 && (eqb m.known 0 && (eqb m.address 0
    && (eqb m.requestedgiven 0 && (eqb m.requested 0 && (eqb m.rsgiven 0 && (eqb m.rs 0 && (eqb m.rrgiven 0 && eqb m.rr 0))))))))))

-- what holds of a good text. "8 `m=` lines." "A port other than 0 needs an address." "An unused part .. is all zeros."
pub record GoodText (t : Text) : Type 0 where
  pub few : t.count ≤ 8
  pub described : (i : ℕ) → i < t.count → MediaRange (get_or t.media i no_media)
  pub live : (i : ℕ) → i < t.count → ((get_or t.media i no_media).port ≡ 0 → ⊥) → (get_or t.media i no_media).known ≡ 1
  pub unused_media : (i : ℕ) → t.count ≤ i → get_or t.media i no_media ≡ no_media
  pub unused_spots : (i : ℕ) → t.count ≤ i → get_or t.spots i no_spot ≡ no_spot
  pub eight_media : length t.media ≡ 8
  pub eight_spots : length t.spots ≡ 8

-- what holds of a refusal of a text of so many lines: one of the numbers 1 to 9 of the table, and nothing else. ""Place" is a line counted
-- from 1, else 0": 0 where the text is too long, and a line of the text for every other number
pub record Refused (lines : ℕ) (t : Text) : Type 0 where
  pub number : (1 ≤ t.refusal) × (t.refusal ≤ 9)
  pub place : t.refusal ≡ 1 → t.place ≡ 0
  pub line : (t.refusal ≡ 1 → ⊥) → (1 ≤ t.place) × (t.place ≤ lines)
  pub count : t.count ≡ 0
  pub media : t.media ≡ replicate 8 no_media
  pub spots : t.spots ≡ replicate 8 no_spot

-- a spot in a text of so many bytes, for "the part of the offer or the answer that decided its status, without its ending": its `m=` line,
-- which is not empty, and its direction line or else the session section's, which is empty where there is neither
pub record Spotted (bytes : ℕ) (s : Spot) : Type 0 where
  pub some : s.start < s.end
  pub end : s.end ≤ bytes
  pub ordered : s.from ≤ s.to
  pub to : s.to ≤ bytes
