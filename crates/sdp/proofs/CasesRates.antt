-- Refusal 7: `b=` lines: computed. Assumes nothing.
use Prim.Native.Nat.{ℕ}
use Prim.Native.String.{String}
use mathlib.Core.Path.{◌≡◌, refl}
use mathlib.Core.List.{List, [], ◌∷◌, ◌++◌, map}
use lib.ListN.{take, replicate}
use Rattle.cursor.specs.Bytes.{bytes}
use Rattle.sdp.specs.Media.{rtp_avp, udp}
use Rattle.sdp.specs.Section.{no_rate, some_rate, no_section, begun, with_media, with_tias, with_requested, with_direction, own_requested, session_of, closed}
use Rattle.sdp.specs.Text.{read_text}
use Rattle.sdp.specs.declared.Media.{Media}
use Rattle.sdp.specs.declared.Requested.{Requested}
use Rattle.sdp.specs.declared.Spot.{Spot}
use Rattle.sdp.specs.declared.Text.{Text}
use Rattle.sdp.specs.declared.section.Section.{Section}
use Rattle.sdp.proofs.Computing.{computing}
use Rattle.sdp.proofs.Cases.{Told, first}

-- a text with these lines in a media section, the first of them the third
abbrev with_lines : String → List ℕ
with_lines more = bytes "v=0\nm=audio 0 udp 0\n" ++ bytes more

-- "`AS:` (kbit/s, at most 4,294,967) .. 1 to 10 digits": a sign, a space or an eleventh digit is 7.
pub as_figures : Told with_lines
    (("b=AS:0\n", 0, 0)
    ∷ ("b=AS:4294967\n", 0, 0)
    ∷ ("b=AS:4294968\n", 7, 3)
    ∷ ("b=AS:4294967296\n", 7, 3)
    ∷ ("b=AS:4294967360\n", 7, 3)
    ∷ ("b=AS:9999999999\n", 7, 3)
    ∷ ("b=AS:0004294967\n", 0, 0)
    ∷ ("b=AS:00004294967\n", 7, 3)
    ∷ ("b=AS:\n", 7, 3)
    ∷ ("b=AS:x\n", 7, 3)
    ∷ ("b=AS:64x\n", 7, 3)
    ∷ ("b=AS:-1\n", 7, 3)
    ∷ ("b=AS:+1\n", 7, 3)
    ∷ ("b=AS: 1\n", 7, 3)
    ∷ ("b=AS:1 \n", 7, 3)
    ∷ [])
unfolding computing
as_figures = refl

-- "7 also for TIAS, at most 4,294,967,295" (02, 7), of 1 to 10 digits: read as RS is
pub tias_figures : Told with_lines
    (("b=TIAS:0\n", 0, 0)
    ∷ ("b=TIAS:64001\n", 0, 0)
    ∷ ("b=TIAS:4294968\n", 0, 0)
    ∷ ("b=TIAS:4294967295\n", 0, 0)
    ∷ ("b=TIAS:4294967296\n", 7, 3)
    ∷ ("b=TIAS:9999999999\n", 7, 3)
    ∷ ("b=TIAS:0000000001\n", 0, 0)
    ∷ ("b=TIAS:00000000001\n", 7, 3)
    ∷ ("b=TIAS:04294967295\n", 7, 3)
    ∷ ("b=TIAS:\n", 7, 3)
    ∷ ("b=TIAS:x\n", 7, 3)
    ∷ ("b=TIAS:64x\n", 7, 3)
    ∷ ("b=TIAS:-1\n", 7, 3)
    ∷ ("b=TIAS:+1\n", 7, 3)
    ∷ ("b=TIAS: 1\n", 7, 3)
    ∷ ("b=TIAS:1 \n", 7, 3)
    ∷ ("b=TIAS:64000.5\n", 7, 3)
    -- tested beside an AS too, and AS beside it
    ∷ ("b=AS:64\nb=TIAS:4294967296\n", 7, 4)
    ∷ ("b=AS:64\nb=TIAS:\n", 7, 4)
    ∷ ("b=TIAS:x\nb=AS:64\n", 7, 3)
    ∷ ("b=TIAS:1\nb=AS:x\n", 7, 4)
    ∷ ("b=TIAS:4294967295\nb=AS:4294968\n", 7, 4)
    ∷ ("b=AS:4294967\nb=TIAS:4294967295\n", 0, 0)
    -- of a live port as of port 0; and 9 comes at its `m=` line
    ∷ ("m=video 9 RTP/AVP 0\nc=IN IP4 1.2.3.4\nb=TIAS:4294967296\n", 7, 5)
    ∷ ("m=audio 9 udp 0\nc=IN IP4 1.2.3.4\nb=TIAS:\n", 7, 5)
    ∷ ("m=audio 9 RTP/AVP 0\nb=TIAS:1\n", 9, 3)
    ∷ ("m=video 9 udp 0\nb=TIAS:1\nb=AS:1\n", 9, 3)
    ∷ ("m=video 9 RTP/AVP 0\nc=IN IP4 1.2.3.4\nb=TIAS:0\nb=TIAS:1\n", 7, 6)
    ∷ ("m=video 0 RTP/AVP 0\nb=TIAS:1\nb=TIAS:1\n", 7, 5)
    ∷ [])
unfolding computing
tias_figures = refl

-- "`RS:` and `RR:` (bit/s, at most 4,294,967,295), 1 to 10 digits"
pub rs_and_rr_figures : Told with_lines
    (("b=RS:0\n", 0, 0)
    ∷ ("b=RS:4294967295\n", 0, 0)
    ∷ ("b=RS:4294967296\n", 7, 3)
    ∷ ("b=RS:0000000001\n", 0, 0)
    ∷ ("b=RS:00000000001\n", 7, 3)
    ∷ ("b=RS:\n", 7, 3)
    ∷ ("b=RS:1 \n", 7, 3)
    ∷ ("b=RR:0\n", 0, 0)
    ∷ ("b=RR:4294967295\n", 0, 0)
    ∷ ("b=RR:4294967296\n", 7, 3)
    ∷ ("b=RR:0000000001\n", 0, 0)
    ∷ ("b=RR:00000000001\n", 7, 3)
    ∷ ("b=RR:\n", 7, 3)
    ∷ ("b=RR: 1\n", 7, 3)
    ∷ [])
unfolding computing
rs_and_rr_figures = refl

-- ".. each at most once", TIAS "at most once" (02, 7), in one media section, also where equal; the next section has its own.
pub once : Told with_lines
    (("b=AS:1\nb=RS:1\nb=RR:1\n", 0, 0)
    ∷ ("b=AS:1\nb=AS:1\n", 7, 4)
    ∷ ("b=RS:1\nb=RS:2\n", 7, 4)
    ∷ ("b=RR:1\nb=RR:1\n", 7, 4)
    ∷ ("b=AS:0\nb=RS:1\nb=RR:1\nb=AS:0\n", 7, 6)
    ∷ ("b=RR:0\nb=AS:1\nb=RS:0\nb=RR:0\n", 7, 6)
    ∷ ("b=RS:0\nb=RR:0\nb=AS:1\nb=RS:0\n", 7, 6)
    ∷ ("b=AS:1\nb=RS:1\nb=RR:1\nm=audio 0 udp 0\nb=AS:1\nb=RS:1\nb=RR:1\n", 0, 0)
    ∷ ("b=AS:1\nm=audio 0 udp 0\nb=AS:1\nb=AS:1\n", 7, 6)
    ∷ ("b=AS:1\nb=TIAS:1000\nb=RS:1\nb=RR:1\n", 0, 0)
    ∷ ("b=TIAS:1000\nb=AS:1\n", 0, 0)
    ∷ ("b=TIAS:1\nb=TIAS:1\n", 7, 4)
    ∷ ("b=TIAS:0\nb=TIAS:1\n", 7, 4)
    ∷ ("b=TIAS:2\nb=TIAS:1\n", 7, 4)
    ∷ ("b=TIAS:4294967295\nb=TIAS:0\n", 7, 4)
    ∷ ("b=TIAS:1\nb=AS:1\nb=TIAS:1\n", 7, 5)
    ∷ ("b=AS:1\nb=TIAS:1\nb=TIAS:1\n", 7, 5)
    ∷ ("b=TIAS:1\nb=AS:1\nb=AS:1\n", 7, 5)
    ∷ ("b=TIAS:0\nb=RS:1\nb=RR:1\nb=TIAS:0\n", 7, 6)
    ∷ ("b=TIAS:1\nm=audio 0 udp 0\nb=TIAS:1\nm=audio 0 udp 0\nb=AS:1\n", 0, 0)
    ∷ ("b=TIAS:1\nm=audio 0 udp 0\nb=TIAS:1\nb=TIAS:1\n", 7, 6)
    ∷ ("m=audio 9 RTP/AVP 0\nc=IN IP4 1.2.3.4\nb=AS:1\nb=RS:1\nb=RR:1\nb=AS:1\n", 7, 8)
    ∷ ("m=audio 9 RTP/AVP 0\nc=IN IP4 1.2.3.4\nb=AS:1\nb=RS:1\nb=RR:1\nb=RS:1\n", 7, 8)
    ∷ ("m=audio 9 RTP/AVP 0\nc=IN IP4 1.2.3.4\nb=AS:1\nb=RS:1\nb=RR:1\nb=RR:1\n", 7, 8)
    ∷ ("m=audio 9 RTP/AVP 0\nc=IN IP4 1.2.3.4\nb=TIAS:1\nb=RS:1\nb=RR:1\nb=TIAS:1\n", 7, 8)
    ∷ [])
unfolding computing
once = refl

-- "Other modifiers .. are passed over": the four are meant with their colon, exactly, and one passed over may come again.
pub others : Told with_lines
    (("b=\n", 0, 0)
    ∷ ("b=AS\n", 0, 0)
    ∷ ("b=AS 64\n", 0, 0)
    ∷ ("b=as:64\nb=as:64\n", 0, 0)
    ∷ ("b=As:x\n", 0, 0)
    ∷ ("b=CT:x\n", 0, 0)
    ∷ ("b=RT:x\n", 0, 0)
    ∷ ("b=X-AS:1\n", 0, 0)
    ∷ ("b= AS:x\n", 0, 0)
    ∷ ("b=RS\nb=RR\nb=TIAS\n", 0, 0)
    ∷ ("b=TIAS 64\nb=TIA:x\nb=TIAS;x\n", 0, 0)
    ∷ ("b=tias:x\nb=Tias:x\nb=TIAs:x\n", 0, 0)
    ∷ ("b=X-TIAS:x\nb= TIAS:x\nb=IAS:x\nb=TAS:x\nb=TIASS:x\n", 0, 0)
    ∷ [])
unfolding computing
others = refl

-- What is read of such lines, in bit/s: the requested rate, RS and RR, each whether it is given and its figure. "All `b=` in the session
-- section" are passed over.
abbrev Figure : Type 0
Figure = ℕ × ℕ

abbrev rates_of : Media → Figure × Figure × Figure
rates_of m = ((m.requestedgiven, m.requested), (m.rsgiven, m.rs), (m.rrgiven, m.rr))

pub rates : map (λ (t : String). rates_of (first (bytes t)))
    ("v=0\nm=a 0 udp 0\n"
    ∷ "v=0\nm=a 0 udp 0\nb=AS:64\n"
    ∷ "v=0\nm=a 0 udp 0\nb=RS:800\n"
    ∷ "v=0\nm=a 0 udp 0\nb=RR:2400\n"
    ∷ "v=0\nm=a 0 udp 0\nb=AS:0\nb=RS:0\nb=RR:0\n"
    ∷ "v=0\nm=a 0 udp 0\nb=AS:4294967\nb=RS:4294967295\nb=RR:0000000005\n"
    ∷ "v=0\nm=a 0 udp 0\nb=RR:3\nb=RS:2\nb=AS:1\n"
    ∷ "v=0\nm=a 0 udp 0\nb=AS\nb=rs:1\nb=X-RR:1\n"
    ∷ "v=0\nb=AS:1\nb=RS:2\nb=RR:3\nm=a 0 udp 0\n"
    ∷ "v=0\nb=AS:1\nb=RS:2\nb=RR:3\nm=a 0 udp 0\nb=RS:9\n"
    ∷ "v=0\nb=TIAS:1\nm=a 0 udp 0\n"
    ∷ "v=0\nb=TIAS:1\nm=a 0 udp 0\nb=TIAS:9\n"
    ∷ "v=0\nb=AS:1\nm=a 0 udp 0\nb=TIAS:9\n"
    ∷ "v=0\nc=IN IP4 1.2.3.4\nb=TIAS:1\nm=video 9 RTP/AVP 0\n"
    ∷ [])
    ≡ ((0, 0), (0, 0), (0, 0))
    ∷ ((1, 64000), (0, 0), (0, 0))
    ∷ ((0, 0), (1, 800), (0, 0))
    ∷ ((0, 0), (0, 0), (1, 2400))
    ∷ ((1, 0), (1, 0), (1, 0))
    ∷ ((1, 4294967000), (1, 4294967295), (1, 5))
    ∷ ((1, 1000), (1, 2), (1, 3))
    ∷ ((0, 0), (0, 0), (0, 0))
    ∷ ((0, 0), (0, 0), (0, 0))
    ∷ ((0, 0), (1, 9), (0, 0))
    ∷ ((0, 0), (0, 0), (0, 0))
    ∷ ((1, 9), (0, 0), (0, 0))
    ∷ ((1, 9), (0, 0), (0, 0))
    ∷ ((0, 0), (0, 0), (0, 0))
    ∷ []
unfolding computing
rates = refl

-- "AS decides where present, else TIAS as it stands" (02, 7), in either order, with other lines between; AS:0 and TIAS:0 are present.
pub requested_rates : map (λ (t : String). (rates_of (first (bytes "v=0\nm=a 0 udp 0\n" ++ bytes t))).0)
    ("b=TIAS:64001\n"
    ∷ "b=TIAS:0\n"
    ∷ "b=TIAS:4294967295\n"
    ∷ "b=TIAS:0000064001\n"
    ∷ "b=AS:64\nb=TIAS:64001\n"
    ∷ "b=TIAS:64001\nb=AS:64\n"
    ∷ "b=AS:64\nb=TIAS:1\n"
    ∷ "b=TIAS:1\nb=AS:64\n"
    ∷ "b=AS:0\nb=TIAS:64001\n"
    ∷ "b=TIAS:64001\nb=AS:0\n"
    ∷ "b=AS:64\nb=TIAS:0\n"
    ∷ "b=TIAS:0\nb=AS:64\n"
    ∷ "b=TIAS:64001\nc=IN IP4 1.2.3.4\nb=RR:9\na=sendonly\nb=RS:8\ni=x\nb=AS:3\n"
    ∷ "b=RS:8\nb=TIAS:64001\nb=RR:9\na=inactive\nc=IN IP4 1.2.3.4\n"
    ∷ "a=maxprate:50\nb=TIAS:64001\na=maxprate:50\n"
    ∷ "b=AS:64\nb=TIAS:63500\n"
    ∷ "b=TIAS:4294967295\nb=AS:4294967\n"
    ∷ "m=b 0 udp 0\nb=TIAS:7\n"
    ∷ "m=b 0 udp 0\nb=AS:7\n"
    ∷ "b=TIAS:6\nm=b 0 udp 0\nb=AS:7\n"
    ∷ "b=AS:6\nm=b 0 udp 0\nb=TIAS:7\n"
    ∷ [])
    ≡ (1, 64001)
    ∷ (1, 0)
    ∷ (1, 4294967295)
    ∷ (1, 64001)
    ∷ (1, 64000)
    ∷ (1, 64000)
    ∷ (1, 64000)
    ∷ (1, 64000)
    ∷ (1, 0)
    ∷ (1, 0)
    ∷ (1, 64000)
    ∷ (1, 64000)
    ∷ (1, 3000)
    ∷ (1, 64001)
    ∷ (1, 64001)
    ∷ (1, 64000)
    ∷ (1, 4294967000)
    ∷ (0, 0)
    ∷ (0, 0)
    ∷ (1, 6)
    ∷ (1, 6000)
    ∷ []
unfolding computing
requested_rates = refl

-- .. and of all eight sections of one text
pub of_each_section : map rates_of (read_text (bytes
    "v=0\nb=TIAS:1\nm=a 0 udp 0\nm=a 0 udp 0\nb=TIAS:2\nm=a 0 udp 0\nb=AS:3\nm=a 0 udp 0\nb=TIAS:4\nb=RS:5\nb=RR:6\nm=a 0 udp 0\nb=RS:7\nm=a 0 udp 0\nb=RR:8\nm=a 0 udp 0\nb=AS:9\nb=TIAS:10\nm=a 0 udp 0\nb=TIAS:11\n")).media
    ≡ ((0, 0), (0, 0), (0, 0))
    ∷ ((1, 2), (0, 0), (0, 0))
    ∷ ((1, 3000), (0, 0), (0, 0))
    ∷ ((1, 4), (1, 5), (1, 6))
    ∷ ((0, 0), (1, 7), (0, 0))
    ∷ ((0, 0), (0, 0), (1, 8))
    ∷ ((1, 9000), (0, 0), (0, 0))
    ∷ ((1, 11), (0, 0), (0, 0))
    ∷ []
unfolding computing
of_each_section = refl

-- .. where the first has one, and the others none
pub of_the_first : map rates_of (take 3 (read_text (bytes "v=0\nm=a 0 udp 0\nb=TIAS:1\nm=a 0 udp 0\nm=a 0 udp 0\nb=RS:2\n")).media)
    ≡ ((1, 1), (0, 0), (0, 0)) ∷ ((0, 0), (0, 0), (0, 0)) ∷ ((0, 0), (1, 2), (0, 0)) ∷ []
unfolding computing
of_the_first = refl

-- What a media section requests in the end, of every kind, by either transport, with port 0 and a live one, without a direction and with each: a row for
-- each AS, in bit/s, or none, and a column for each TIAS or none.
abbrev section : ℕ → ℕ → ℕ → ℕ → Requested → Requested → Section
section transport port kind direction by_as by-tias =
    let new = begun (session_of no_section) (record { kind = kind; transport = transport; port = port }) 2 4 15 in
    with_tias (with_media new (with_direction (with_requested new.media by_as) direction)) by-tias

abbrev given : List Requested
given = no_rate ∷ some_rate 0 ∷ some_rate 63500 ∷ some_rate 64000 ∷ some_rate 64001 ∷ some_rate 4294967000 ∷ some_rate 4294967295 ∷ []

abbrev requests_of : (Requested → Requested → Section) → List (List Requested)
requests_of s = map (λ by_as. map (λ by-tias. own_requested (closed (session_of no_section) (s by_as by-tias))) given) given

abbrev of_each_kind : (ℕ → ℕ → Requested → Requested → Section) → List (List (List (List Requested)))
of_each_kind s = map (λ kind. map (λ direction. requests_of (s kind direction)) (0 ∷ 1 ∷ 2 ∷ 3 ∷ 4 ∷ [])) (1 ∷ 2 ∷ 3 ∷ 4 ∷ 5 ∷ 6 ∷ [])

abbrev decided : List (List Requested)
decided =
    given
    ∷ replicate 7 (some_rate 0)
    ∷ replicate 7 (some_rate 63500)
    ∷ replicate 7 (some_rate 64000)
    ∷ replicate 7 (some_rate 64001)
    ∷ replicate 7 (some_rate 4294967000)
    ∷ replicate 7 (some_rate 4294967295)
    ∷ []

pub every_request : of_each_kind (section rtp_avp 0) ++ of_each_kind (section rtp_avp 9) ++ of_each_kind (section udp 0) ++ of_each_kind (section udp 9)
    ≡ replicate 24 (replicate 5 decided)
unfolding computing
every_request = refl

-- .. and read from the bytes, without a direction and after each
abbrev kinds : List String
kinds = "audio" ∷ "video" ∷ "application" ∷ "data" ∷ "control" ∷ "text" ∷ []

abbrev read : String → String → String → ℕ × ℕ
read head kind lines = (rates_of (first (bytes "v=0\nc=IN IP4 1.2.3.4\nm=" ++ bytes kind ++ bytes head ++ bytes lines))).0

abbrev read_of : String → List (List (ℕ × ℕ))
read_of head =
    map (λ kind. map (read head kind)
    ("b=TIAS:64001\n"
    ∷ "b=TIAS:0\n"
    ∷ "b=AS:0\n"
    ∷ "b=AS:0\nb=TIAS:64001\n"
    ∷ "b=TIAS:64001\nb=AS:0\n"
    ∷ "b=AS:64\nb=TIAS:64001\n"
    ∷ "b=TIAS:64001\nb=AS:64\n"
    ∷ "a=sendrecv\nb=TIAS:5\n"
    ∷ "a=sendonly\nb=TIAS:5\n"
    ∷ "a=recvonly\nb=TIAS:5\n"
    ∷ "a=inactive\nb=TIAS:5\nb=RS:6\nb=RR:7\n"
    ∷ [])) kinds

abbrev told : List (ℕ × ℕ)
told = (1, 64001) ∷ (1, 0) ∷ (1, 0) ∷ (1, 0) ∷ (1, 0) ∷ (1, 64000) ∷ (1, 64000) ∷ (1, 5) ∷ (1, 5) ∷ (1, 5) ∷ (1, 5) ∷ []

pub every_request_read : map read_of (" 0 RTP/AVP 0\n" ∷ " 9 RTP/AVP 0\n" ∷ " 0 udp 0\n" ∷ " 9 udp 0\n" ∷ []) ≡ replicate 4 (replicate 6 told)
unfolding computing
every_request_read = refl

-- .. under each direction of the session section, which stands for the section's, with its line
abbrev under : String → Text
under direction = read_text (bytes "v=0\na=" ++ bytes direction ++ bytes "\nm=a 0 udp 0\nb=TIAS:5\nm=b 0 udp 0\nb=AS:6\nb=TIAS:7\n")

abbrev directions : List String
directions = "sendrecv" ∷ "sendonly" ∷ "recvonly" ∷ "inactive" ∷ []

pub under_a_session_direction :
    (map (λ (d : String). map rates_of (take 2 (under d).media)) directions ≡ replicate 4 (((1, 5), (0, 0), (0, 0)) ∷ ((1, 6000), (0, 0), (0, 0)) ∷ []))
    × (map (λ (d : String). map (λ (m : Media). m.direction) (take 2 (under d).media)) directions ≡ (1 ∷ 1 ∷ []) ∷ (2 ∷ 2 ∷ []) ∷ (3 ∷ 3 ∷ []) ∷ (4 ∷ 4 ∷ []) ∷ [])
    × (map (λ (d : String). map (λ (s : Spot). s.from) (take 2 (under d).spots)) directions ≡ replicate 4 (4 ∷ 4 ∷ []))
    × (map (λ (d : String). map (λ (s : Spot). s.to) (take 2 (under d).spots)) directions ≡ replicate 4 (14 ∷ 14 ∷ []))
unfolding computing
under_a_session_direction = (refl, refl, refl, refl)

-- "All `b=` in the session section, are passed over": also faulty ones, and several of one kind
pub in_the_session : Told (λ more. bytes "v=0\n" ++ bytes more)
    (("b=AS:x\n", 0, 0)
    ∷ ("b=RS:4294967296\nb=RR:\n", 0, 0)
    ∷ ("b=AS:1\nb=AS:1\nm=audio 0 udp 0\nb=AS:1\n", 0, 0)
    ∷ ("b=TIAS:x\n", 0, 0)
    ∷ ("b=TIAS:4294967296\nm=audio 0 udp 0\n", 0, 0)
    ∷ ("b=TIAS:1\nb=TIAS:1\nm=audio 0 udp 0\nb=TIAS:1\n", 0, 0)
    ∷ [])
unfolding computing
in_the_session = refl
