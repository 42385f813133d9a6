-- A text with the session's direction line in its media sections, and without it: computed. Assumes nothing.
use Prim.Native.Nat.{ℕ}
use Prim.Native.String.{String}
use mathlib.Core.Path.{◌≡◌, refl}
use mathlib.Core.List.{List, [], ◌∷◌, map}
use mathlib.Core.Bool.{true, false}
use Rattle.cursor.specs.Bytes.{split, bytes}
use Rattle.sdp.specs.Line.{lf}
use Rattle.sdp.specs.Default.{directed, moved, all_directed, unsaid}
use Rattle.sdp.proofs.Computing.{computing}

abbrev cut : String → List (List ℕ)
cut t = split lf (bytes t)

-- into each media section that has none, after its `m=` line; its own ending goes with it
pub goes_into_each : map (λ (t : String). moved (cut t))
    ("v=0\na=sendonly\r\nc=x\nm=a 0 udp 0\nb=x\nm=b 0 udp 0\r\nb=x\na=inactive\nm=c 0 udp 0\n"
    ∷ "v=0\na=sendrecv\nm=a 0 udp 0\nm=b 0 udp 0\na=sendrecv\nm=c 0 udp 0\nc=x\nb=x\na=recvonly\n"
    ∷ "v=0\nm=a 0 udp 0\na=sendonly\nm=b 0 udp 0\n"
    ∷ "v=0\na=sendonly \nm=a 0 udp 0\n"
    ∷ "v=0\na=sendonly\na=inactive\nm=a 0 udp 0\n"
    ∷ "v=0\na=sendonly\n"
    ∷ "v=0\na=sendonly\nm=a 0 udp 0"
    ∷ "v=0\nx\na=sendonly"
    ∷ "v=0"
    ∷ "a=sendonly\nv=0\n"
    ∷ [])
    ≡ map cut
    ("v=0\nc=x\nm=a 0 udp 0\na=sendonly\r\nb=x\nm=b 0 udp 0\r\nb=x\na=inactive\nm=c 0 udp 0\na=sendonly\r\n"
    ∷ "v=0\nm=a 0 udp 0\na=sendrecv\nm=b 0 udp 0\na=sendrecv\nm=c 0 udp 0\nc=x\nb=x\na=recvonly\n"
    ∷ "v=0\nm=a 0 udp 0\na=sendonly\nm=b 0 udp 0\n"
    ∷ "v=0\na=sendonly \nm=a 0 udp 0\n"
    ∷ "v=0\na=inactive\nm=a 0 udp 0\na=sendonly\n"
    ∷ "v=0\n"
    ∷ "v=0\nm=a 0 udp 0"
    ∷ "v=0\nx\na=sendonly"
    ∷ "v=0"
    ∷ "a=sendonly\nv=0\n"
    ∷ [])
unfolding computing
goes_into_each = refl

-- a direction line before the next `m=` line; what has no ending, or not the form, is none
pub seen_ahead : map (λ (t : String). directed (cut t))
    ("a=sendonly\n"
    ∷ "b=x\na=x\na=inactive\r\nm=a 0 udp 0\n"
    ∷ ""
    ∷ "a=sendonly"
    ∷ "a=sendonly \n"
    ∷ "b=sendonly\n"
    ∷ "axsendonly\n"
    ∷ "m=a 0 udp 0\na=sendonly\n"
    ∷ "b=x\nm=a 0 udp 0\na=sendonly\n"
    ∷ [])
    ≡ true ∷ true ∷ false ∷ false ∷ false ∷ false ∷ false ∷ false ∷ false ∷ []
unfolding computing
seen_ahead = refl

pub nothing_ahead : directed [] ≡ false
unfolding computing
nothing_ahead = refl

-- each media section has its own, or one has none
pub own_in_each : map (λ (t : String). all_directed (cut t))
    ("v=0\na=sendonly\n"
    ∷ "v=0\nm=a 0 udp 0\na=sendonly\n"
    ∷ "v=0\nm=a 0 udp 0\nb=x\na=sendonly\nm=b 0 udp 0\na=inactive\n"
    ∷ "v=0\nm=a 0 udp 0\n"
    ∷ "v=0\nm=a 0 udp 0\nm=b 0 udp 0\na=sendonly\n"
    ∷ "v=0\na=sendonly\nm=a 0 udp 0\na=sendonly\nm=b 0 udp 0\n"
    ∷ [])
    ≡ true ∷ true ∷ true ∷ false ∷ false ∷ false ∷ []
unfolding computing
own_in_each = refl

-- the session's line left out, and nothing else
pub left_out : map (λ (t : String). unsaid (cut t))
    ("v=0\nc=x\na=sendonly\nt=0 0\nm=a 0 udp 0\na=inactive\n"
    ∷ "v=0\na=sendonly\na=inactive\nm=a 0 udp 0\n"
    ∷ "v=0\nm=a 0 udp 0\na=sendonly\n"
    ∷ "v=0\na=sendonly"
    ∷ "a=sendonly\nv=0\n"
    ∷ [])
    ≡ map cut
    ("v=0\nc=x\nt=0 0\nm=a 0 udp 0\na=inactive\n"
    ∷ "v=0\na=inactive\nm=a 0 udp 0\n"
    ∷ "v=0\nm=a 0 udp 0\na=sendonly\n"
    ∷ "v=0\na=sendonly"
    ∷ "a=sendonly\nv=0\n"
    ∷ [])
unfolding computing
left_out = refl
