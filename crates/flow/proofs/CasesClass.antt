-- Class: computed. Assumes nothing.
use Prim.Native.Nat.{ℕ, ◌-◌}
use mathlib.Core.Path.{◌≡◌, refl}
use mathlib.Core.List.{List, [], ◌∷◌, ◌++◌, map}
use mathlib.Core.Bool.{true, false}
use lib.ListN.{get_or, replicate}
use Rattle.sdp.specs.Media.{audio_kind, video_kind, application_kind, data_kind, rtp_avp, udp}
use Rattle.flow.specs.declared.Was.{Was}
use Rattle.flow.specs.declared.Component.{Component}
use Rattle.flow.specs.Class.{class_of, talks, talked, up_only, down_only, kept_class}
use Rattle.flow.proofs.Computing.{computing}
use Rattle.flow.proofs.CasesHeld.{way, component, zeros, was}
use Rattle.flow.proofs.CasesStatus.{kinds}

-- "application 2, data 8, control 6, other 9, removed 0 (none). Audio and video take the session's kept class.", at every live status
abbrev living : List ℕ
living = 0 ∷ 1 ∷ 2 ∷ 3 ∷ []

pub classes : (map (λ n. map (class_of 4 n) kinds) living ≡ replicate 4 (4 ∷ 4 ∷ 2 ∷ 8 ∷ 6 ∷ 9 ∷ []))
    × (map (λ n. map (class_of 2 n) kinds) living ≡ replicate 4 (2 ∷ 2 ∷ 2 ∷ 8 ∷ 6 ∷ 9 ∷ []))
    × (map (class_of 4 4) kinds ≡ replicate 6 0)
unfolding computing
classes = (refl, refl, refl)

-- .. whatever that is
abbrev keeps : List ℕ
keeps = 0 ∷ 2 ∷ 4 ∷ 6 ∷ 8 ∷ 9 ∷ []

pub kept_taken : (map (λ kept. class_of kept 2 audio_kind) keeps ≡ keeps) × (map (λ kept. class_of kept 2 video_kind) keeps ≡ keeps)
unfolding computing
kept_taken = (refl, refl)

-- a component by kind, described both ways, up only, down only; one that is disabled, and one that was removed
abbrev both : ℕ → Component
both kind = component kind rtp_avp 2 0 (way 1 0 0 0 0) (way 1 0 0 0 0)

abbrev up : ℕ → Component
up kind = component kind rtp_avp 0 0 (way 1 0 0 0 0) (way 0 0 0 0 0)

abbrev down : ℕ → Component
down kind = component kind rtp_avp 1 0 (way 0 0 0 0 0) (way 1 0 0 0 0)

abbrev still : ℕ → Component
still kind = component kind rtp_avp 3 0 (way 1 0 0 0 0) (way 1 0 0 0 0)

abbrev off : ℕ → Component
off kind = component kind rtp_avp 4 0 (way 0 0 0 0 0) (way 0 0 0 0 0)

-- by kind, as it was: live, and removed
abbrev lived : ℕ → Was
lived kind = was kind 1 1 1

abbrev dead : ℕ → Was
dead kind = was kind 0 0 0

-- "live audio and video", now and before: by each kind live, and audio removed; audio by udp
pub live_audio_and_video : (map (λ k. talks (both k)) kinds ≡ (true ∷ true ∷ false ∷ false ∷ false ∷ false ∷ []))
    × (map talks (off audio_kind ∷ off video_kind ∷ component audio_kind udp 2 0 (way 1 0 0 0 0) (way 1 0 0 0 0) ∷ []) ≡ (false ∷ false ∷ true ∷ []))
    × (map (λ k. talked (lived k)) kinds ≡ (true ∷ true ∷ false ∷ false ∷ false ∷ false ∷ []))
    × (map (λ k. talked (dead k)) (audio_kind ∷ video_kind ∷ []) ≡ (false ∷ false ∷ []))
unfolding computing
live_audio_and_video = (refl, refl, refl, refl)

-- "described up only", "down only"
pub one_way_only : (map up_only (both 1 ∷ up 1 ∷ down 1 ∷ off 1 ∷ []) ≡ (false ∷ true ∷ false ∷ false ∷ []))
    × (map down_only (both 1 ∷ up 1 ∷ down 1 ∷ off 1 ∷ []) ≡ (false ∷ false ∷ true ∷ false ∷ []))
unfolding computing
one_way_only = (refl, refl)

-- what stood in each slot, what stands there now, and the kept class; it is 6 before, so that one sees where it stays
abbrev Case : Type 0
Case = List Was × List Component × ℕ

abbrev figures : Case → ℕ
figures k = k.2

abbrev told_from : ℕ → Case → ℕ
told_from kept k = kept_class kept (λ j. get_or k.0 j (dead 0)) (λ j. get_or k.1 j zeros)

abbrev told : Case → ℕ
told = told_from 6

abbrev cases : List Case
cases =
    -- "None: kept class stays.", whatever there was
    ([], [], 6)
    ∷ ([], both application_kind ∷ off audio_kind ∷ [], 6)
    ∷ (lived audio_kind ∷ [], off audio_kind ∷ [], 6)
    -- newly live: "4 if all are described up only, or all down only, else 2"
    ∷ ([], both audio_kind ∷ [], 2)
    ∷ ([], up video_kind ∷ [], 4)
    ∷ ([], down audio_kind ∷ [], 4)
    ∷ ([], up audio_kind ∷ up video_kind ∷ [], 4)
    ∷ ([], down audio_kind ∷ down video_kind ∷ [], 4)
    ∷ ([], up audio_kind ∷ down video_kind ∷ [], 2)
    ∷ ([], up audio_kind ∷ both video_kind ∷ [], 2)
    ∷ ([], up audio_kind ∷ down application_kind ∷ off video_kind ∷ [], 4)
    ∷ ([], down audio_kind ∷ both data_kind ∷ off video_kind ∷ [], 4)
    ∷ ([], still audio_kind ∷ [], 2)
    ∷ (dead audio_kind ∷ [], up audio_kind ∷ [], 4)
    -- "None newly live or changed in kind, and at least one that was live audio or video no longer is: it stays (NOTE 2)."
    ∷ (lived audio_kind ∷ lived video_kind ∷ [], up audio_kind ∷ off video_kind ∷ [], 6)
    ∷ (lived audio_kind ∷ lived audio_kind ∷ [], up audio_kind ∷ both application_kind ∷ [], 6)
    ∷ (lived audio_kind ∷ lived video_kind ∷ [], up audio_kind ∷ [], 6)
    -- .. whatever was described of it, and is
    ∷ (was audio_kind 1 1 0 ∷ lived video_kind ∷ [], down audio_kind ∷ off video_kind ∷ [], 6)
    ∷ (was audio_kind 1 0 1 ∷ lived video_kind ∷ [], both audio_kind ∷ off video_kind ∷ [], 6)
    -- .. what is newly live or changed in kind there is neither audio nor video
    ∷ (lived audio_kind ∷ lived video_kind ∷ [], up audio_kind ∷ off video_kind ∷ both application_kind ∷ [], 6)
    ∷ (lived audio_kind ∷ lived video_kind ∷ lived application_kind ∷ [], up audio_kind ∷ off video_kind ∷ both data_kind ∷ [], 6)
    -- none gone: what was removed before, or was neither audio nor video, does not count; what is disabled is live
    ∷ (lived audio_kind ∷ lived video_kind ∷ [], up audio_kind ∷ up video_kind ∷ [], 4)
    ∷ (lived audio_kind ∷ lived video_kind ∷ [], both audio_kind ∷ both video_kind ∷ [], 2)
    ∷ (lived audio_kind ∷ lived video_kind ∷ [], up audio_kind ∷ still video_kind ∷ [], 2)
    ∷ (lived audio_kind ∷ lived video_kind ∷ [], still audio_kind ∷ still video_kind ∷ [], 2)
    ∷ (lived audio_kind ∷ dead video_kind ∷ lived application_kind ∷ [], up audio_kind ∷ off video_kind ∷ off application_kind ∷ [], 4)
    -- one gone, and one newly live: it was not there, was removed, or was neither audio nor video
    ∷ (lived audio_kind ∷ lived video_kind ∷ [], up audio_kind ∷ off video_kind ∷ up video_kind ∷ [], 4)
    ∷ (dead audio_kind ∷ lived video_kind ∷ [], up audio_kind ∷ off video_kind ∷ [], 4)
    ∷ (lived data_kind ∷ lived video_kind ∷ [], up audio_kind ∷ off video_kind ∷ [], 4)
    -- one gone, and one changed in kind, from audio to video or back
    ∷ (lived audio_kind ∷ lived video_kind ∷ [], down video_kind ∷ off video_kind ∷ [], 4)
    ∷ (lived video_kind ∷ lived video_kind ∷ [], both audio_kind ∷ off video_kind ∷ [], 2)
    ∷ []

pub kept_classes : map told cases ≡ map figures cases
unfolding computing
kept_classes = refl

-- "Otherwise 4 if .., else 2": anew at each exchange, whatever it was
abbrev anew : List Case
anew =
    ([], both audio_kind ∷ [], 2)
    ∷ ([], up video_kind ∷ [], 4)
    ∷ (lived audio_kind ∷ lived video_kind ∷ [], both audio_kind ∷ up video_kind ∷ [], 2)
    ∷ (lived audio_kind ∷ lived video_kind ∷ [], down audio_kind ∷ down video_kind ∷ [], 4)
    ∷ (lived audio_kind ∷ lived video_kind ∷ [], down video_kind ∷ off video_kind ∷ [], 4)
    ∷ []

pub classed_anew : map (λ kept. map (told_from kept) anew) keeps ≡ replicate 6 (map figures anew)
unfolding computing
classed_anew = refl

-- "kept class stays", "it stays (NOTE 2)": whatever it is
pub stays_whatever_it_is :
    (map (λ kept. told_from kept ([], [], 0)) keeps ≡ keeps)
    × (map (λ kept. told_from kept (lived audio_kind ∷ lived video_kind ∷ [], up audio_kind ∷ off video_kind ∷ [], 0)) keeps ≡ keeps)
unfolding computing
stays_whatever_it_is = (refl, refl)

-- All eight slots are looked at, and no more: what counts stands in slot 7, and in a slot 8, which there is not.
abbrev at : {A : Type 0} → ℕ → A → A → List A
at n x none = replicate n none ++ (x ∷ [])

abbrev after : {A : Type 0} → A → ℕ → A → A → List A
after first n x none = first ∷ replicate (n - 1) none ++ (x ∷ [])

abbrev ends : List Case
ends =
    ([], at 7 (up audio_kind) zeros, 4)
    ∷ ([], at 8 (up audio_kind) zeros, 6)
    ∷ (lived audio_kind ∷ [], after (off audio_kind) 7 (up audio_kind) zeros, 4)
    ∷ (lived video_kind ∷ lived audio_kind ∷ [], after (up video_kind) 8 (up audio_kind) zeros, 6)
    ∷ (after (lived audio_kind) 7 (lived audio_kind) (dead 0), up audio_kind ∷ [], 6)
    ∷ (after (lived audio_kind) 8 (lived audio_kind) (dead 0), up audio_kind ∷ [], 4)
    ∷ ([], after (up audio_kind) 7 (both audio_kind) zeros, 2)
    ∷ ([], after (up audio_kind) 8 (both audio_kind) zeros, 4)
    ∷ ([], after (down audio_kind) 7 (both audio_kind) zeros, 2)
    ∷ ([], after (down audio_kind) 8 (both audio_kind) zeros, 4)
    ∷ []

pub eight_slots_count : map told ends ≡ map figures ends
unfolding computing
eight_slots_count = refl
