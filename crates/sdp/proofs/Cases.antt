-- Texts, read by the definition: computed. Here what the tables of Cases.. share, case i, the texts of "First", and the order of the numbers.
-- Assumes nothing.
use Prim.Native.Nat.{ℕ}
use Prim.Native.String.{String}
use mathlib.Core.Path.{◌≡◌, refl}
use mathlib.Core.List.{List, [], ◌∷◌, ◌++◌, map}
use lib.ListN.{get_or}
use Rattle.cursor.specs.Bytes.{bytes}
use Rattle.sdp.specs.declared.Media.{Media}
use Rattle.sdp.specs.Section.{no_media}
use Rattle.sdp.specs.Text.{read_text}
use Rattle.sdp.proofs.Computing.{computing}

-- what a text is made from, with the text's refusal and place
abbrev pub Case : Type 0
Case = String × ℕ × ℕ

abbrev pub figures : Case → ℕ × ℕ
figures k = (k.1, k.2)

abbrev pub told : List ℕ → ℕ × ℕ
told t = ((read_text t).refusal, (read_text t).place)

-- each text of a table, made so, has its refusal and place
abbrev pub Told : (String → List ℕ) → List Case → Type 0
Told text cases = map (λ (k : Case). told (text k.0)) cases ≡ map figures cases

-- the first media description of a text
abbrev pub first : List ℕ → Media
first t = get_or (read_text t).media 0 no_media

-- "First": the offer and the answer
pub first_offer_lem : first (bytes "v=0\nc=IN IP4 192.0.2.1\nm=audio 40000 RTP/AVP 0\nb=AS:64\n")
    ≡ record {
      address = 3221225985;
      requested = 64000;
      rs = 0;
      rr = 0;
      port = 40000;
      kind = 1;
      transport = 1;
      direction = 1;
      known = 1;
      requestedgiven = 1;
      rsgiven = 0;
      rrgiven = 0;
    }
unfolding computing
first_offer_lem = refl

pub first_answer_lem : first (bytes "v=0\nc=IN IP4 192.0.2.9\nm=audio 50000 RTP/AVP 0\n")
    ≡ record {
      address = 3221225993;
      requested = 0;
      rs = 0;
      rr = 0;
      port = 50000;
      kind = 1;
      transport = 1;
      direction = 1;
      known = 1;
      requestedgiven = 0;
      rsgiven = 0;
      rrgiven = 0;
    }
unfolding computing
first_answer_lem = refl

-- "i. AS:4294967 good, 4294968 is 7. RTP port 65534 good, 65535 is 3; udp 65535 good."
pub case_i : Told (λ more. bytes "v=0\nc=IN IP4 192.0.2.1\n" ++ bytes more)
    (("m=audio 40000 RTP/AVP 0\nb=AS:4294967\n", 0, 0)
    ∷ ("m=audio 40000 RTP/AVP 0\nb=AS:4294968\n", 7, 4)
    ∷ ("m=audio 65534 RTP/AVP 0\n", 0, 0)
    ∷ ("m=audio 65535 RTP/AVP 0\n", 3, 3)
    ∷ ("m=audio 65535 udp 0\n", 0, 0)
    ∷ [])
unfolding computing
case_i = refl

-- "In a text: .. lines in order, each tested for 2 and then its own kind": the first faulty line wins, whatever its number; a line that is
-- faulty in form and in its own kind is 2.
pub first_fault : Told (λ more. bytes "v=0\nm=audio 0 RTP/AVP 0\n" ++ bytes more)
    (("", 0, 0)
    ∷ ("b=AS:x\nm=audio 0\n", 7, 3)
    ∷ ("m=audio 0\nb=AS:x\n", 3, 3)
    ∷ ("c=IN IP6 ::1\nx\n", 6, 3)
    ∷ ("x\nc=IN IP6 ::1\n", 2, 3)
    ∷ ("a=sendonly\na=sendonly\nm=audio 0 tcp 0\n", 8, 4)
    ∷ ("m=audio 0 tcp 0\na=sendonly\na=sendonly\n", 4, 3)
    ∷ ("m=audio\r\r\n", 2, 3)
    ∷ ("c=IN\rIP6\n", 2, 3)
    ∷ ("b=AS:x", 2, 3)
    ∷ [])
unfolding computing
first_fault = refl

-- ".. then 9": only after all lines are good. Each fault in a line after a live port without an address wins over 9.
pub nine_last : Told (λ more. bytes "v=0\nm=audio 9 udp 0\n" ++ bytes more)
    (("", 9, 2)
    ∷ ("a=ptime:20\n", 9, 2)
    ∷ ("x\n", 2, 3)
    ∷ ("a=ptime:20", 2, 3)
    ∷ ("m=audio 0 udp\n", 3, 3)
    ∷ ("m=audio 0 tcp 0\n", 4, 3)
    ∷ ("m=a 0 udp 0\nm=a 0 udp 0\nm=a 0 udp 0\nm=a 0 udp 0\nm=a 0 udp 0\nm=a 0 udp 0\nm=a 0 udp 0\nm=a 0 udp 0\n", 5, 10)
    ∷ ("c=IN IP6 ::1\n", 6, 3)
    ∷ ("b=AS:x\n", 7, 3)
    ∷ ("a=sendonly\na=sendonly\n", 8, 4)
    ∷ [])
unfolding computing
nine_last = refl
