-- 15, the fit of an answer: computed. Assumes nothing.
use Prim.Native.Nat.{ℕ}
use mathlib.Core.Path.{◌≡◌, refl}
use mathlib.Core.List.{List, [], ◌∷◌, ◌++◌, map}
use lib.ListN.{length, replicate}
use Rattle.sdp.specs.Direction.{sendrecv}
use Rattle.sdp.specs.Media.{audio_kind, video_kind, rtp_avp, udp}
use Rattle.sdp.specs.declared.Media.{Media}
use Rattle.flow.specs.declared.Descriptions.{Descriptions}
use Rattle.flow.specs.declared.Fit.{Fit}
use Rattle.flow.specs.Fit.{fit_of}
use Rattle.flow.proofs.Computing.{computing}
use Rattle.flow.proofs.CasesStatus.{says, kinds}

abbrev audio : ℕ → Media
audio port = says audio_kind rtp_avp sendrecv 9 port

abbrev video : ℕ → Media
video port = says video_kind rtp_avp sendrecv 9 port

abbrev by_udp : ℕ → Media
by_udp port = says audio_kind udp sendrecv 9 port

abbrev text : List Media → Descriptions
text media = record { count = length media; media = media }

-- the offer, the answer, the refusal and its place
abbrev Case : Type 0
Case = List Media × List Media × ℕ × ℕ

abbrev figures : Case → Fit
figures k = record { refusal = k.2; place = k.3 }

abbrev told : Case → Fit
told k = fit_of (text k.0) (text k.1)

abbrev cases : List Case
cases =
    -- it fits, whatever its port where the offer's is not 0
    ([], [], 0, 0)
    ∷ (video 9 ∷ [], video 8 ∷ [], 0, 0)
    ∷ (video 9 ∷ by_udp 1 ∷ [], video 0 ∷ by_udp 1 ∷ [], 0, 0)
    ∷ (audio 0 ∷ [], audio 0 ∷ [], 0, 0)
    -- "answer's count differs (place 0)", before all else
    ∷ (audio 9 ∷ [], [], 15, 0)
    ∷ ([], audio 9 ∷ [], 15, 0)
    ∷ (audio 9 ∷ [], video 9 ∷ audio 9 ∷ [], 15, 0)
    ∷ (audio 9 ∷ audio 9 ∷ [], video 9 ∷ [], 15, 0)
    ∷ (audio 9 ∷ [], audio 9 ∷ video 0 ∷ [], 15, 0)
    ∷ (audio 9 ∷ video 0 ∷ [], audio 9 ∷ [], 15, 0)
    -- "or media kind or transport differs", of a removed one too
    ∷ (audio 9 ∷ [], video 9 ∷ [], 15, 1)
    ∷ (audio 9 ∷ [], by_udp 9 ∷ [], 15, 1)
    ∷ (audio 0 ∷ [], video 0 ∷ [], 15, 1)
    ∷ (audio 0 ∷ [], by_udp 0 ∷ [], 15, 1)
    -- "or port not 0 where the offer's is 0"
    ∷ (audio 0 ∷ [], audio 9 ∷ [], 15, 1)
    ∷ (audio 0 ∷ [], audio 1 ∷ [], 15, 1)
    -- "lowest component, from 1"
    ∷ (audio 9 ∷ video 9 ∷ [], video 9 ∷ audio 9 ∷ [], 15, 1)
    ∷ (audio 9 ∷ audio 9 ∷ audio 0 ∷ [], audio 9 ∷ by_udp 9 ∷ video 9 ∷ [], 15, 2)
    ∷ (audio 9 ∷ audio 9 ∷ audio 0 ∷ [], audio 9 ∷ audio 9 ∷ audio 9 ∷ [], 15, 3)
    ∷ (replicate 8 (audio 9), replicate 7 (audio 9) ++ (video 9 ∷ []), 15, 8)
    ∷ []

pub fits_or_not : map told cases ≡ map figures cases
unfolding computing
fits_or_not = refl

-- One component, of each kind of difference: audio and video by RTP/AVP and by udp, each with port 0 and 9; the offer's a row, the answer's a column,
-- and the place, 0 where it fits
abbrev by_udp_too : ℕ → Media
by_udp_too port = says video_kind udp sendrecv 9 port

abbrev each : List Media
each = audio 0 ∷ audio 9 ∷ by_udp 0 ∷ by_udp 9 ∷ video 0 ∷ video 9 ∷ by_udp_too 0 ∷ by_udp_too 9 ∷ []

pub one_by_one : map (λ o. map (λ a. (fit_of (text (o ∷ [])) (text (a ∷ []))).place) each) each
    ≡ ((0 ∷ 1 ∷ 1 ∷ 1 ∷ 1 ∷ 1 ∷ 1 ∷ 1 ∷ [])
    ∷ (0 ∷ 0 ∷ 1 ∷ 1 ∷ 1 ∷ 1 ∷ 1 ∷ 1 ∷ [])
    ∷ (1 ∷ 1 ∷ 0 ∷ 1 ∷ 1 ∷ 1 ∷ 1 ∷ 1 ∷ [])
    ∷ (1 ∷ 1 ∷ 0 ∷ 0 ∷ 1 ∷ 1 ∷ 1 ∷ 1 ∷ [])
    ∷ (1 ∷ 1 ∷ 1 ∷ 1 ∷ 0 ∷ 1 ∷ 1 ∷ 1 ∷ [])
    ∷ (1 ∷ 1 ∷ 1 ∷ 1 ∷ 0 ∷ 0 ∷ 1 ∷ 1 ∷ [])
    ∷ (1 ∷ 1 ∷ 1 ∷ 1 ∷ 1 ∷ 1 ∷ 0 ∷ 1 ∷ [])
    ∷ (1 ∷ 1 ∷ 1 ∷ 1 ∷ 1 ∷ 1 ∷ 0 ∷ 0 ∷ [])
    ∷ [])
unfolding computing
one_by_one = refl

-- the place by each kind of the offer, a row, and of the answer, a column
pub kind_by_kind : map (λ o. map (λ a. (fit_of (text (says o udp sendrecv 9 9 ∷ [])) (text (says a udp sendrecv 9 9 ∷ []))).place) kinds) kinds
    ≡ ((0 ∷ 1 ∷ 1 ∷ 1 ∷ 1 ∷ 1 ∷ [])
    ∷ (1 ∷ 0 ∷ 1 ∷ 1 ∷ 1 ∷ 1 ∷ [])
    ∷ (1 ∷ 1 ∷ 0 ∷ 1 ∷ 1 ∷ 1 ∷ [])
    ∷ (1 ∷ 1 ∷ 1 ∷ 0 ∷ 1 ∷ 1 ∷ [])
    ∷ (1 ∷ 1 ∷ 1 ∷ 1 ∷ 0 ∷ 1 ∷ [])
    ∷ (1 ∷ 1 ∷ 1 ∷ 1 ∷ 1 ∷ 0 ∷ [])
    ∷ [])
unfolding computing
kind_by_kind = refl

-- "the lowest component over its three causes together": an offer and an answer that fit, and those with each cause; one in the first component, a row,
-- and one in the second, a column
abbrev causes : List (Media × Media)
causes = (audio 9, audio 9) ∷ (audio 9, video 9) ∷ (audio 9, by_udp 9) ∷ (audio 0, audio 9) ∷ []

pub two_causes : map (λ (k : Media × Media). map (λ (l : Media × Media). (fit_of (text (k.0 ∷ l.0 ∷ [])) (text (k.1 ∷ l.1 ∷ []))).place) causes) causes
    ≡ ((0 ∷ 2 ∷ 2 ∷ 2 ∷ []) ∷ (1 ∷ 1 ∷ 1 ∷ 1 ∷ []) ∷ (1 ∷ 1 ∷ 1 ∷ 1 ∷ []) ∷ (1 ∷ 1 ∷ 1 ∷ 1 ∷ []) ∷ [])
unfolding computing
two_causes = refl
