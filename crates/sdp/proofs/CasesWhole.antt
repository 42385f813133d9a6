-- Whole answers: every field of what a text says, with LF and with CR LF, and of a refusal: computed. Assumes nothing.
use Prim.Native.Nat.{ℕ}
use Prim.Native.String.{String}
use mathlib.Core.Path.{◌≡◌, refl}
use mathlib.Core.List.{List, [], ◌∷◌, ◌++◌, map}
use lib.ListN.{take, replicate}
use Rattle.cursor.specs.Bytes.{bytes}
use Rattle.cursor.specs.Parts.{part}
use Rattle.sdp.specs.declared.Media.{Media}
use Rattle.sdp.specs.declared.Spot.{Spot}
use Rattle.sdp.specs.declared.Text.{Text}
use Rattle.sdp.specs.declared.section.Session.{Session}
use Rattle.sdp.specs.Section.{no_media, no_spot, no_rate, no_section, begun, with_address, with_direction, session_of}
use Rattle.sdp.specs.Text.{read_text, in_session, in_media, media_lines}
use Rattle.sdp.proofs.Computing.{computing}

-- lines, each with this ending
abbrev ended : String → List String → List ℕ
ended ending [] = []
ended ending (l ∷ ls) = bytes l ++ bytes ending ++ ended ending ls

-- Three media sections: an address and a direction of its own, the session's address, and port 0 with both of the session's; all figures
-- different. AS with TIAS, TIAS alone, neither; RS and RR in both orders; of the session section `c=` and the direction are read.
abbrev lines : List String
lines =
    "v=0"
    ∷ "s=call"
    ∷ "c=IN IP4 192.0.2.1"
    ∷ "b=AS:1"
    ∷ "a=inactive"
    ∷ "m=video 40000 RTP/AVP 96 97"
    ∷ "b=RR:2400"
    ∷ "b=RS:800"
    ∷ "b=AS:64"
    ∷ "b=TIAS:9"
    ∷ "c=IN IP4 198.51.100.7"
    ∷ "a=sendonly"
    ∷ "m=data 5000 udp x"
    ∷ "a=recvonly"
    ∷ "b=TIAS:64001"
    ∷ "b=RS:11"
    ∷ "b=RR:22"
    ∷ "m=audio 0 udp 0"
    ∷ "a=ptime:20"
    ∷ []

abbrev video : Media
video =
    record {
      address = 3325256711;
      requested = 64000;
      rs = 800;
      rr = 2400;
      port = 40000;
      kind = 2;
      transport = 1;
      direction = 2;
      known = 1;
      requestedgiven = 1;
      rsgiven = 1;
      rrgiven = 1;
    }

abbrev data' : Media
data' =
    record {
      address = 3221225985;
      requested = 64001;
      rs = 11;
      rr = 22;
      port = 5000;
      kind = 4;
      transport = 2;
      direction = 3;
      known = 1;
      requestedgiven = 1;
      rsgiven = 1;
      rrgiven = 1;
    }

abbrev audio : Media
audio =
    record {
      address = 3221225985;
      requested = 0;
      rs = 0;
      rr = 0;
      port = 0;
      kind = 1;
      transport = 2;
      direction = 4;
      known = 1;
      requestedgiven = 0;
      rsgiven = 0;
      rrgiven = 0;
    }

-- an unused description and an unused spot: all zeros
abbrev zeros : Media
zeros =
    record {
      address = 0;
      requested = 0;
      rs = 0;
      rr = 0;
      port = 0;
      kind = 0;
      transport = 0;
      direction = 0;
      known = 0;
      requestedgiven = 0;
      rsgiven = 0;
      rrgiven = 0;
    }

abbrev spot : ℕ → ℕ → ℕ → ℕ → Spot
spot start end from to = record { start = start; end = end; from = from; to = to }

pub with_lf : read_text (ended "\n" lines)
    ≡ record {
      refusal = 0;
      place = 0;
      count = 3;
      media = video ∷ data' ∷ audio ∷ replicate 5 zeros;
      spots = spot 48 75 134 144 ∷ spot 145 162 163 173 ∷ spot 203 218 37 47 ∷ replicate 5 (spot 0 0 0 0);
    }
unfolding computing
with_lf = refl

-- "Lines end in LF or CR LF": the same descriptions; the CR is no part of a line's spot.
pub with_cr_lf : read_text (ended "\r\n" lines)
    ≡ record {
      refusal = 0;
      place = 0;
      count = 3;
      media = video ∷ data' ∷ audio ∷ replicate 5 zeros;
      spots = spot 53 80 145 155 ∷ spot 157 174 176 186 ∷ spot 220 235 41 51 ∷ replicate 5 (spot 0 0 0 0);
    }
unfolding computing
with_cr_lf = refl

-- The spots are the `m=` line and the direction line of each section, the session's where it has none, "without its ending".
abbrev spotted : List ℕ → List (List ℕ × List ℕ)
spotted t = take 3 (map (λ (s : Spot). (part t s.start s.end, part t s.from s.to)) (read_text t).spots)

abbrev deciding : List (List ℕ × List ℕ)
deciding =
    (bytes "m=video 40000 RTP/AVP 96 97", bytes "a=sendonly")
    ∷ (bytes "m=data 5000 udp x", bytes "a=recvonly")
    ∷ (bytes "m=audio 0 udp 0", bytes "a=inactive")
    ∷ []

pub lines_spotted : (spotted (ended "\n" lines) ≡ deciding) × (spotted (ended "\r\n" lines) ≡ deciding)
unfolding computing
lines_spotted = (refl, refl)

-- a refusal: its number and place, and nothing else
abbrev refused : ℕ → ℕ → Text
refused number place = record { refusal = number; place = place; count = 0; media = replicate 8 zeros; spots = replicate 8 (spot 0 0 0 0) }

pub refusals : (read_text (ended "\n" (lines ++ ("c=" ∷ []))) ≡ refused 6 20)
    × (read_text (ended "\r\n" (lines ++ ("m=a 9 udp" ∷ []))) ≡ refused 3 20)
    × (read_text (ended "\n" (lines ++ ("" ∷ []))) ≡ refused 2 20)
    × (read_text (bytes "v=0\r\nm=a 0 udp 0\r\nm=a 9 udp 0\r\n") ≡ refused 9 3)
    × (read_text (replicate 4097 97) ≡ refused 1 0)
unfolding computing
refusals = (refl, refl, refl, refl, refl)

-- no media section: nothing but zeros
pub nothing : read_text (bytes "v=0\nc=IN IP4 1.2.3.4\n") ≡ refused 0 0
unfolding computing
nothing = refl

-- before the first line: the session section, all zeros, and no `m=` line yet
pub before : (no_media ≡ zeros) × (no_spot ≡ spot 0 0 0 0) × (no_section ≡ record { line = 0; media = zeros; spot = spot 0 0 0 0; tias = record { given = 0; bits = 0 } })
unfolding computing
before = (refl, refl, refl)

-- what the session section says in the end: its address, its direction or sendrecv, and where that line stands
abbrev session : ℕ → Session
session direction = session_of (record { line = 0; media = with_direction (with_address zeros (record { known = 1; bits = 5 })) direction; spot = spot 0 0 4 14; tias = no_rate })

pub session_ended : map session (0 ∷ 1 ∷ 2 ∷ 3 ∷ 4 ∷ [])
    ≡ map (λ (d : ℕ). record { address = record { known = 1; bits = 5 }; direction = d; from = 4; to = 14 }) (1 ∷ 1 ∷ 2 ∷ 3 ∷ 4 ∷ [])
unfolding computing
session_ended = refl

-- after an `m=` line, here the third line, from byte 20 to before 38: what it says, and nothing else yet but where the session's direction stands
pub just_begun : begun (session 2) (record { kind = 6; transport = 2; port = 9 }) 3 20 38
    ≡ record {
      line = 3;
      media =
          record {
            address = 0;
            requested = 0;
            rs = 0;
            rr = 0;
            port = 9;
            kind = 6;
            transport = 2;
            direction = 0;
            known = 0;
            requestedgiven = 0;
            rsgiven = 0;
            rrgiven = 0;
          };
      spot = spot 20 38 4 14;
      tias = no_rate;
    }
unfolding computing
just_begun = refl

-- how many `m=` lines there were, in the session section and in the first and the third media section
pub counted : (media_lines (in_session no_section) ≡ 0)
    × (media_lines (in_media (session_of no_section) [] no_section) ≡ 1)
    × (media_lines (in_media (session_of no_section) (no_section ∷ no_section ∷ []) no_section) ≡ 3)
unfolding computing
counted = (refl, refl, refl)

-- An ordinary text, with the lines that RFC 2327 has beside those that are read: they are passed over wherever they stand, and change nothing.
abbrev ordinary : List ℕ
ordinary =
    ended "\r\n"
    ("v=0"
    ∷ "o=- 1 1 IN IP4 192.0.2.1"
    ∷ "s=-"
    ∷ "i=x"
    ∷ "c=IN IP4 192.0.2.1"
    ∷ "b=AS:9"
    ∷ "t=0 0"
    ∷ "k=clear:x"
    ∷ "a=x"
    ∷ "m=audio 40000 RTP/AVP 0 8"
    ∷ "i=y"
    ∷ "b=AS:64"
    ∷ "k=clear:y"
    ∷ "a=rtpmap:0 PCMU/8000"
    ∷ "a=sendonly"
    ∷ "i=z"
    ∷ "m=video 40002 RTP/AVP 31"
    ∷ "c=IN IP4 192.0.2.2"
    ∷ "b=RS:800"
    ∷ "b=RR:2400"
    ∷ "k=clear:z"
    ∷ "a=recvonly"
    ∷ "z=0 0"
    ∷ [])

abbrev media : (kind address requestedgiven requested rsgiven rs rrgiven rr port direction : ℕ) → Media
media kind address requestedgiven requested rsgiven rs rrgiven rr port direction =
    record {
      address = address;
      requested = requested;
      rs = rs;
      rr = rr;
      port = port;
      kind = kind;
      transport = 1;
      direction = direction;
      known = 1;
      requestedgiven = requestedgiven;
      rsgiven = rsgiven;
      rrgiven = rrgiven;
    }

pub passed_over : ((read_text ordinary).refusal ≡ 0)
    × ((read_text ordinary).media ≡ media 1 3221225985 1 64000 0 0 0 0 40000 2 ∷ media 2 3221225986 0 0 1 800 1 2400 40002 3 ∷ replicate 6 zeros)
unfolding computing
passed_over = (refl, refl)
