-- Bearer: computed. Assumes nothing.
use Prim.Native.Nat.{ℕ}
use mathlib.Core.Path.{◌≡◌, refl}
use mathlib.Core.List.{List, [], ◌∷◌, map}
use mathlib.Core.Bool.{true, false}
use Rattle.sdp.specs.Media.{audio_kind, data_kind, rtp_avp, udp}
use Rattle.flow.specs.declared.Authorised.{Authorised}
use Rattle.flow.specs.declared.Component.{Component}
use Rattle.flow.specs.declared.Held.{Held}
use Rattle.flow.specs.Bearer.{rest, named, names_past, booked_up, booked_down, at_most, smaller, authorised}
use Rattle.flow.proofs.Computing.{computing}
use Rattle.flow.proofs.CasesHeld.{way, component, after}

-- "Component 1 is bit value 1 of the set": a set of components 1, 3 and 8, what is left of it, and what is past the count
pub sets : (map (named 133) (0 ∷ 1 ∷ 2 ∷ 3 ∷ 6 ∷ 7 ∷ 8 ∷ []) ≡ (true ∷ false ∷ true ∷ false ∷ false ∷ true ∷ false ∷ []))
    × (map (rest 133) (0 ∷ 1 ∷ 2 ∷ 3 ∷ 7 ∷ 8 ∷ []) ≡ (133 ∷ 66 ∷ 33 ∷ 16 ∷ 1 ∷ 0 ∷ []))
    × (map (names_past 133) (7 ∷ 8 ∷ []) ≡ (true ∷ false ∷ []))
    × (map (names_past 2) (1 ∷ 2 ∷ []) ≡ (true ∷ false ∷ []))
unfolding computing
sets = (refl, refl, refl, refl)

-- "each direction then at most 256,000,000"
pub ceilings : map at_most (0 ∷ 255999999 ∷ 256000000 ∷ 256000001 ∷ 512000000 ∷ []) ≡ (0 ∷ 255999999 ∷ 256000000 ∷ 256000000 ∷ 256000000 ∷ [])
unfolding computing
ceilings = refl

-- "the smallest non-zero number .., else 0"
pub smallest : map (λ (k : ℕ × ℕ). smaller k.0 k.1) ((0, 0) ∷ (0, 8) ∷ (8, 0) ∷ (2, 8) ∷ (8, 2) ∷ (4, 4) ∷ [])
    ≡ (0 ∷ 8 ∷ 8 ∷ 2 ∷ 2 ∷ 4 ∷ [])
unfolding computing
smallest = refl

-- "Sum media and RTCP rates": up 105, down 2,007
abbrev audio : Component
audio = component audio_kind rtp_avp 2 4 (way 1 0 0 100 5) (way 1 0 0 2000 7)

pub booked : (booked_up audio ≡ 105) × (booked_down audio ≡ 2007)
unfolding computing
booked = (refl, refl)

-- a session with that audio, data, one that was removed, and two wide ones
abbrev held : Held
held =
    after 4 5
    (audio
    ∷ component data_kind rtp_avp 3 8 (way 1 0 0 3000 1) (way 1 0 0 70000 9)
    ∷ component audio_kind rtp_avp 4 0 (way 0 0 0 0 0) (way 0 0 0 0 0)
    ∷ component audio_kind rtp_avp 2 2 (way 1 0 0 128000000 0) (way 1 0 0 300 0)
    ∷ component audio_kind rtp_avp 2 2 (way 1 0 0 128000000 1) (way 1 0 0 256000000 0)
    ∷ component audio_kind rtp_avp 2 6 (way 1 0 0 1 1) (way 1 0 0 1 1)
    ∷ [])

-- set, asked class, up and down; refusal, and authorised class, up and down
abbrev Case : Type 0
Case = (ℕ × ℕ × ℕ × ℕ) × (ℕ × ℕ × ℕ × ℕ)

abbrev figures : Case → Authorised
figures k = record { refusal = k.1.0; class = k.1.1; up = k.1.2; down = k.1.3 }

abbrev told : Case → Authorised
told k = authorised held (record { set = k.0.0; class = k.0.1; up = k.0.2; down = k.0.3 })

abbrev cases : List Case
cases =
    -- 18: "bearer's component set is empty or names one past the count", a high bit too
    ((0, 9, 0, 0), (18, 0, 0, 0))
    ∷ ((32, 9, 0, 0), (18, 0, 0, 0))
    ∷ ((33, 9, 0, 0), (18, 0, 0, 0))
    ∷ ((9223372036854775809, 9, 0, 0), (18, 0, 0, 0))
    -- "Accepted exactly if some named component is live, the asked class number is not smaller, and both asked rates are not larger."
    ∷ ((1, 4, 105, 2007), (0, 4, 105, 2007))
    ∷ ((1, 9, 0, 0), (0, 4, 105, 2007))
    ∷ ((1, 3, 105, 2007), (17, 4, 105, 2007))
    ∷ ((1, 4, 106, 2007), (17, 4, 105, 2007))
    ∷ ((1, 4, 105, 2008), (17, 4, 105, 2007))
    ∷ ((1, 4, 106, 105), (17, 4, 105, 2007))
    ∷ ((1, 4, 2007, 105), (17, 4, 105, 2007))
    -- "Class is the smallest non-zero number named"
    ∷ ((2, 8, 3001, 70009), (0, 8, 3001, 70009))
    ∷ ((2, 7, 3001, 70009), (17, 8, 3001, 70009))
    ∷ ((3, 4, 3106, 72016), (0, 4, 3106, 72016))
    ∷ ((6, 8, 3001, 70009), (0, 8, 3001, 70009))
    ∷ ((7, 4, 3106, 72016), (0, 4, 3106, 72016))
    ∷ ((10, 2, 128003001, 70309), (0, 2, 128003001, 70309))
    ∷ ((10, 1, 0, 0), (17, 2, 128003001, 70309))
    -- "else 0": the one that was removed alone is not accepted
    ∷ ((4, 9, 0, 0), (17, 0, 0, 0))
    -- "each direction then at most 256,000,000"
    ∷ ((8, 2, 128000000, 300), (0, 2, 128000000, 300))
    ∷ ((24, 2, 256000000, 256000000), (0, 2, 256000000, 256000000))
    ∷ ((24, 2, 256000001, 0), (17, 2, 256000000, 256000000))
    ∷ ((24, 2, 0, 256000001), (17, 2, 256000000, 256000000))
    ∷ []

pub bearers : map told cases ≡ map figures cases
unfolding computing
bearers = refl

-- "of the named components": in a row that a host lends one of them may be removed and yet have a class and rates. They count; it is not live.
abbrev lent : Held
lent =
    after 2 2
    (component audio_kind rtp_avp 4 4 (way 0 0 0 100 5) (way 0 0 0 10 1) ∷ component audio_kind rtp_avp 2 6 (way 1 0 0 1000 0) (way 1 0 0 2000 0) ∷ [])

pub named_and_removed : map (λ set. authorised lent (record { set = set; class = 9; up = 0; down = 0 })) (1 ∷ 2 ∷ 3 ∷ [])
    ≡ (record { refusal = 17; class = 4; up = 105; down = 11 }
    ∷ record { refusal = 0; class = 6; up = 1000; down = 2000 }
    ∷ record { refusal = 0; class = 4; up = 1105; down = 2011 }
    ∷ [])
unfolding computing
named_and_removed = refl

-- A live one without a rate, status 0; one by udp that a host lends with RTCP rates, status 1; one whose rates pass 32 bits.
abbrev odd : Held
odd =
    after 2 3
    (component audio_kind udp 0 4 (way 1 0 0 0 0) (way 0 0 0 0 0)
    ∷ component audio_kind udp 1 6 (way 0 0 0 5 6) (way 1 0 0 7 8)
    ∷ component audio_kind rtp_avp 2 6 (way 1 0 0 4294967295 1) (way 1 0 0 4294967000 214748350)
    ∷ [])

-- set, asked class, up and down, as above; 18 comes before a class that is too small
pub odd_bearers : map (λ (k : ℕ × ℕ × ℕ × ℕ). authorised odd (record { set = k.0; class = k.1; up = k.2; down = k.3 }))
    ((1, 4, 0, 0) ∷ (1, 2, 0, 0) ∷ (2, 6, 11, 15) ∷ (4, 6, 256000000, 256000000) ∷ (9, 2, 0, 0) ∷ (8, 2, 0, 0) ∷ [])
    ≡ (record { refusal = 0; class = 4; up = 0; down = 0 }
    ∷ record { refusal = 17; class = 4; up = 0; down = 0 }
    ∷ record { refusal = 0; class = 6; up = 11; down = 15 }
    ∷ record { refusal = 0; class = 6; up = 256000000; down = 256000000 }
    ∷ record { refusal = 18; class = 0; up = 0; down = 0 }
    ∷ record { refusal = 18; class = 0; up = 0; down = 0 }
    ∷ [])
unfolding computing
odd_bearers = refl
