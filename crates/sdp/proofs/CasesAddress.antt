-- Refusals 6 and 9: `c=` lines, and the addresses of media sections: computed. Assumes nothing.
use Prim.Native.Nat.{ℕ}
use Prim.Native.String.{String}
use mathlib.Core.Path.{◌≡◌, refl}
use mathlib.Core.List.{List, [], ◌∷◌, ◌++◌, map}
use mathlib.Core.Bool.{true, false}
use lib.ListN.{take}
use Rattle.cursor.specs.Bytes.{bytes}
use Rattle.sdp.specs.declared.Address.{Address}
use Rattle.sdp.specs.declared.Media.{Media}
use Rattle.sdp.specs.Section.{no_address, own_address, lacks}
use Rattle.sdp.specs.Text.{read_text}
use Rattle.sdp.proofs.Computing.{computing}
use Rattle.sdp.proofs.Cases.{Told, first}

-- "`c=IN IP4 a.b.c.d`": the address as one number. `0.0.0.0` is an address like any other, and leading zeros are good.
abbrev address : ℕ → Address
address n = record { known = 1; bits = n }

abbrev nowhere : Address
nowhere = record { known = 0; bits = 0 }

abbrev read : String → Address
read v = own_address (first (bytes "v=0\nc=" ++ bytes v ++ bytes "\nm=audio 9 udp 0\n"))

pub addresses : map read
    ("IN IP4 0.0.0.0"
    ∷ "IN IP4 1.0.0.0"
    ∷ "IN IP4 0.1.0.0"
    ∷ "IN IP4 0.0.1.0"
    ∷ "IN IP4 0.0.0.1"
    ∷ "IN IP4 1.2.3.4"
    ∷ "IN IP4 001.02.003.4"
    ∷ "IN IP4 010.012.0.099"
    ∷ "IN IP4 127.0.0.1"
    ∷ "IN IP4 224.2.1.1"
    ∷ "IN IP4 239.255.255.255"
    ∷ "IN IP4 192.0.2.1"
    ∷ "IN IP4 255.255.255.255"
    ∷ [])
    ≡ map address (0 ∷ 16777216 ∷ 65536 ∷ 256 ∷ 1 ∷ 16909060 ∷ 16909060 ∷ 168558691 ∷ 2130706433 ∷ 3758227713 ∷ 4026531839 ∷ 3221225985 ∷ 4294967295 ∷ [])
unfolding computing
addresses = refl

-- ".. four numbers 0-255 of 1 to 3 digits, nothing after": each bound at each of the four places; so IP6, a TTL or a trailing space is 6.
abbrev lines : List (String × ℕ × ℕ)
lines =
    ("IN IP4 255.2.3.4", 0, 0)
    ∷ ("IN IP4 1.255.3.4", 0, 0)
    ∷ ("IN IP4 1.2.255.4", 0, 0)
    ∷ ("IN IP4 1.2.3.255", 0, 0)
    ∷ ("IN IP4 256.2.3.4", 6, 2)
    ∷ ("IN IP4 1.256.3.4", 6, 2)
    ∷ ("IN IP4 1.2.256.4", 6, 2)
    ∷ ("IN IP4 1.2.3.256", 6, 2)
    ∷ ("IN IP4 001.002.003.004", 0, 0)
    ∷ ("IN IP4 0001.2.3.4", 6, 2)
    ∷ ("IN IP4 1.0002.3.4", 6, 2)
    ∷ ("IN IP4 1.2.0003.4", 6, 2)
    ∷ ("IN IP4 1.2.3.0004", 6, 2)
    ∷ ("IN IP4 .2.3.4", 6, 2)
    ∷ ("IN IP4 1..3.4", 6, 2)
    ∷ ("IN IP4 1.2..4", 6, 2)
    ∷ ("IN IP4 1.2.3.", 6, 2)
    ∷ ("IN IP4 x.2.3.4", 6, 2)
    ∷ ("IN IP4 1.x.3.4", 6, 2)
    ∷ ("IN IP4 1.2.x.4", 6, 2)
    ∷ ("IN IP4 1.2.3.x", 6, 2)
    ∷ ("IN IP4 1.2.3", 6, 2)
    ∷ ("IN IP4 1.2.3.4.", 6, 2)
    ∷ ("IN IP4 1.2.3.4.5", 6, 2)
    ∷ ("IN IP4 1.2.3.4/127", 6, 2)
    ∷ ("IN IP4 1.2.3.0/8", 6, 2)
    ∷ ("IN IP4 1.2.3.0:8", 6, 2)
    ∷ ("IN IP4 1.2.3.4 ", 6, 2)
    ∷ ("IN IP4  1.2.3.4", 6, 2)
    ∷ ("IN IP4 1-2-3-4", 6, 2)
    ∷ ("IN IP4 1/2/3/4", 6, 2)
    ∷ ("IN IP4 ", 6, 2)
    ∷ ("IN IP4", 6, 2)
    ∷ ("IN IP5 1.2.3.4", 6, 2)
    ∷ ("IN IP6 ::1", 6, 2)
    ∷ ("in ip4 1.2.3.4", 6, 2)
    ∷ ("1.2.3.4", 6, 2)
    ∷ ("", 6, 2)
    ∷ []

pub connections : Told (λ v. bytes "v=0\nc=" ++ bytes v ++ bytes "\n") lines
unfolding computing
connections = refl

-- "At most one per section", the session's and each media section's; a bad or second one is 6 also where the section's port is 0.
pub one_each : Told (λ more. bytes "v=0\n" ++ bytes more)
    (("c=IN IP4 1.2.3.4\nm=audio 0 udp 0\nc=IN IP4 1.2.3.4\nm=audio 0 udp 0\nc=IN IP4 1.2.3.4\n", 0, 0)
    ∷ ("c=IN IP4 1.2.3.4\nc=IN IP4 1.2.3.4\n", 6, 3)
    ∷ ("c=IN IP4 0.0.0.0\nc=IN IP4 0.0.0.0\n", 6, 3)
    ∷ ("c=IN IP4 1.2.3.4\nc=\n", 6, 3)
    ∷ ("m=audio 9 udp 0\nc=IN IP4 1.2.3.4\nc=IN IP4 5.6.7.8\n", 6, 4)
    ∷ ("m=audio 0 udp 0\nc=IN IP4 1.2.3.4\na=x\nc=IN IP4 1.2.3.4\n", 6, 5)
    ∷ ("m=audio 9 udp 0\nc=IN IP4 1.2.3.4\nb=AS:1\nb=RS:1\nb=RR:1\na=sendonly\nc=IN IP4 1.2.3.4\n", 6, 8)
    ∷ ("m=audio 0 udp 0\nc=IN IP6 ::1\n", 6, 3)
    ∷ ("m=audio 0 udp 0\nm=audio 0 udp 0\nc=IN IP6 ::1\n", 6, 4)
    ∷ [])
unfolding computing
one_each = refl

-- "The session's serves a media section without its own", also where that has port 0; its own comes before the session's, and serves it alone.
abbrev addresses_of : List ℕ → List Address
addresses_of t = map own_address (read_text t).media

pub own_or_session : take 4 (addresses_of (bytes "v=0\nc=IN IP4 0.0.0.1\nm=a 9 udp 0\nm=a 9 udp 0\nc=IN IP4 0.0.0.2\nm=a 0 udp 0\nm=a 9 udp 0\nc=IN IP4 0.0.0.0\n"))
    ≡ address 1 ∷ address 2 ∷ address 1 ∷ address 0 ∷ []
unfolding computing
own_or_session = refl

pub own_alone : take 4 (addresses_of (bytes "v=0\nm=a 9 udp 0\nc=IN IP4 0.0.0.2\nm=a 0 udp 0\nm=a 9 udp 0\nc=IN IP4 0.0.0.3\n"))
    ≡ address 2 ∷ nowhere ∷ address 3 ∷ nowhere ∷ []
unfolding computing
own_alone = refl

-- .. where the port is 0 too, and wherever it stands among the section's other lines
abbrev anywhere : List ℕ
anywhere =
    bytes "v=0\nc=IN IP4 0.0.0.1\nm=a 0 udp 0\nc=IN IP4 0.0.0.2\nm=a 9 udp 0\nc=IN IP4 0.0.0.3\nb=AS:1\nm=a 9 udp 0\nc=IN IP4 0.0.0.4\nb=RS:1\n"
    ++ bytes "m=a 9 udp 0\nc=IN IP4 0.0.0.5\nb=RR:1\nm=a 9 udp 0\na=sendonly\nb=AS:1\nc=IN IP4 0.0.0.6\na=x\n"

pub own_anywhere : take 5 (addresses_of anywhere)
    ≡ address 2 ∷ address 3 ∷ address 4 ∷ address 5 ∷ address 6 ∷ []
unfolding computing
own_anywhere = refl

pub no_address_lem : no_address ≡ nowhere
unfolding computing
no_address_lem = refl

-- "A port other than 0 needs an address." "9 | live port without address, lowest | its `m=` line"
pub lowest : Told (λ more. bytes "v=0\n" ++ bytes more)
    (("m=a 0 udp 0\n", 0, 0)
    ∷ ("m=a 1 udp 0\n", 9, 2)
    ∷ ("m=a 65535 udp 0\n", 9, 2)
    ∷ ("m=audio 9 RTP/AVP 0\n", 9, 2)
    ∷ ("m=video 65534 RTP/AVP 0\n", 9, 2)
    ∷ ("m=a 9 udp 0\nb=AS:1\nb=RS:1\nb=RR:1\na=sendonly\na=x\n", 9, 2)
    ∷ ("m=a 0 udp 0\nb=AS:1\nm=a 9 udp 0\nb=AS:1\na=sendonly\nm=a 9 udp 0\n", 9, 4)
    ∷ ("m=a 9 udp 0\nc=IN IP4 0.0.0.0\n", 0, 0)
    ∷ ("c=IN IP4 0.0.0.0\nm=a 9 udp 0\n", 0, 0)
    ∷ ("s=-\nm=a 0 udp 0\na=x\nm=a 9 udp 0\nm=a 9 udp 0\n", 9, 5)
    ∷ ("m=a 9 udp 0\nc=IN IP4 1.2.3.4\nm=a 9 udp 0\na=x\nm=a 9 udp 0\nm=a 0 udp 0\n", 9, 4)
    ∷ ("m=a 9 udp 0\nm=a 9 udp 0\nc=IN IP4 1.2.3.4\n", 9, 2)
    -- the lowest section, not the lowest port
    ∷ ("m=a 9 udp 0\nm=a 8 udp 0\nm=a 7 udp 0\n", 9, 2)
    ∷ ("m=a 0 udp 0\nm=a 9 udp 0\nm=a 10 udp 0\n", 9, 3)
    ∷ ("m=a 0 udp 0\nm=a 0 udp 0\nc=IN IP4 1.2.3.4\nm=a 9 udp 0\n", 9, 5)
    ∷ [])
unfolding computing
lowest = refl

-- .. of a description by itself
abbrev described : ℕ → ℕ → Media
described port known =
    record {
      address = 0;
      requested = 0;
      rs = 0;
      rr = 0;
      port = port;
      kind = 0;
      transport = 0;
      direction = 0;
      known = known;
      requestedgiven = 0;
      rsgiven = 0;
      rrgiven = 0;
    }

pub lack : map lacks (described 0 0 ∷ described 0 1 ∷ described 1 0 ∷ described 1 1 ∷ described 65535 0 ∷ []) ≡ false ∷ false ∷ true ∷ false ∷ true ∷ []
unfolding computing
lack = refl
