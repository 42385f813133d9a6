-- Statements, written by the definition: computed. Assumes nothing.
use Prim.Native.Nat.{ℕ}
use mathlib.Core.Path.{◌≡◌, refl}
use mathlib.Core.List.{List, [], ◌∷◌, ◌++◌, map}
use lib.ListN.{replicate}
use Rattle.cursor.specs.Bytes.{bytes}
use Rattle.sdp.specs.Media.{audio_kind, video_kind, application_kind, data_kind, control_kind, other_kind, rtp_avp, udp}
use Rattle.sdp.specs.Text.{read_text}
use Rattle.flow.specs.declared.Settings.{Settings}
use Rattle.flow.specs.declared.Way.{Way}
use Rattle.flow.specs.declared.Component.{Component}
use Rattle.flow.specs.declared.Held.{Held}
use Rattle.flow.specs.Before.{before_of}
use Rattle.flow.specs.Derive.{derived}
use Rattle.flow.specs.Fit.{said}
use Rattle.flow.specs.Session.{no_way, fresh_held}
use Rattle.statement.specs.declared.Written.{Written}
use Rattle.statement.specs.Statement.{line, kind_name, count_line, statement_of, written, after}
use Rattle.statement.proofs.Computing.{computing}

-- "First", from the bytes of its two texts, by the settings of the call file
abbrev settings : Settings
settings = record { media = record { up = 100000; down = 100000 }; rtcp = record { up = 5000; down = 5000 }; pool = record { up = 1000000; down = 1000000 } }

abbrev first : Held
first =
    derived settings 0 (before_of fresh_held) (said (read_text (bytes "v=0\nc=IN IP4 192.0.2.1\nm=audio 40000 RTP/AVP 0\nb=AS:64\n")))
    (said (read_text (bytes "v=0\nc=IN IP4 192.0.2.9\nm=audio 50000 RTP/AVP 0\n")))

-- a room that a statement fits, or not: the length, "on 20 the length needed"
abbrev fits : ℕ → Written
fits length = record { refusal = 0; length = length }

abbrev needs : ℕ → Written
needs length = record { refusal = 20; length = length }

-- "Statement of First, 48 bytes; a buffer of 47 is 20"
pub case_l : (statement_of first ≡ bytes "components 1\n1 audio 2 2 100000 64000 5000 3200\n")
    × (map (written first) (0 ∷ 47 ∷ 48 ∷ 49 ∷ []) ≡ (needs 48 ∷ needs 48 ∷ fits 48 ∷ fits 48 ∷ []))
unfolding computing
case_l = (refl, refl)

-- "bytes past the end unchanged", and all of them on 20
pub buffers : map (after first) (replicate 47 7 ∷ replicate 48 7 ∷ replicate 50 7 ∷ [] ∷ [])
    ≡ (replicate 47 7 ∷ statement_of first ∷ (statement_of first ++ (7 ∷ 7 ∷ [])) ∷ [] ∷ [])
unfolding computing
buffers = refl

-- "Lines end in LF, single spaces between fields": of no field, one, and three
pub line_forms : map line ([] ∷ (bytes "a" ∷ []) ∷ (bytes "a" ∷ bytes "b" ∷ bytes "c" ∷ []) ∷ []) ≡ (bytes "\n" ∷ bytes "a\n" ∷ bytes "a b c\n" ∷ [])
unfolding computing
line_forms = refl

-- "kind by name"
pub kind_names : map kind_name (audio_kind ∷ video_kind ∷ application_kind ∷ data_kind ∷ control_kind ∷ other_kind ∷ [])
    ≡ (bytes "audio" ∷ bytes "video" ∷ bytes "application" ∷ bytes "data" ∷ bytes "control" ∷ bytes "other" ∷ [])
unfolding computing
kind_names = refl

-- "`components` and the count"
pub counts : map count_line (0 ∷ 8 ∷ []) ≡ (bytes "components 0\n" ∷ bytes "components 8\n" ∷ [])
unfolding computing
counts = refl

-- a component with a figure of its own for each field
abbrev way_of : ℕ → ℕ → Way
way_of media rtcp = record { rtcp = record { 0 = rtcp }; address = 0; media = media; port = 0; described = 1 }

abbrev video : Component
video = record { kind = video_kind; transport = rtp_avp; status = 0; class = 4; up = way_of 11 13; down = way_of 12 14 }

abbrev bulk : Component
bulk = record { kind = data_kind; transport = udp; status = 3; class = 8; up = way_of 4294967295 8589934590; down = way_of 0 0 }

abbrev held : ℕ → List Component → Held
held count components = record { completed = 1; kept = 4; count = count; components = components }

-- A removed component keeps its line.
abbrev off : Component
off = record { kind = audio_kind; transport = rtp_avp; status = 4; class = 0; up = no_way; down = no_way }

pub removed_keeps_its_line : statement_of (held 2 (off ∷ video ∷ [])) ≡ bytes "components 2\n1 audio 4 0 0 0 0 0\n2 video 0 4 11 12 13 14\n"
unfolding computing
removed_keeps_its_line = refl

-- "then per component its number, kind by name, status, class, media up, media down, RTCP up, RTCP down": those to the count
pub fields_in_order : map statement_of (held 0 (video ∷ []) ∷ held 1 (video ∷ bulk ∷ []) ∷ held 2 (video ∷ bulk ∷ []) ∷ [])
    ≡ (bytes "components 0\n"
    ∷ bytes "components 1\n1 video 0 4 11 12 13 14\n"
    ∷ bytes "components 2\n1 video 0 4 11 12 13 14\n2 data 3 8 4294967295 0 8589934590 0\n"
    ∷ [])
unfolding computing
fields_in_order = refl

-- .. whatever is described: in a row that a host lends a rate may stand where nothing is
abbrev undescribed : Way
undescribed = record { rtcp = record { 0 = 22 }; address = 0; media = 21; port = 0; described = 0 }

pub rates_as_they_stand : statement_of (held 1 (record { kind = audio_kind; transport = udp; status = 2; class = 2; up = undescribed; down = undescribed } ∷ []))
    ≡ bytes "components 1\n1 audio 2 2 21 21 22 22\n"
unfolding computing
rates_as_they_stand = refl

-- .. and a removed one have a class and rates
pub removed_as_it_stands : statement_of (held 1 (record { kind = video_kind; transport = rtp_avp; status = 4; class = 2; up = way_of 11 13; down = way_of 12 14 } ∷ []))
    ≡ bytes "components 1\n1 video 4 2 11 12 13 14\n"
unfolding computing
removed_as_it_stands = refl

-- a count past eight counts as eight
abbrev zeros : Component
zeros = record { kind = 0; transport = 0; status = 0; class = 0; up = way_of 0 0; down = way_of 0 0 }

abbrev eight : List ℕ
eight =
    bytes "components 8\n1 other 0 0 0 0 0 0\n2 other 0 0 0 0 0 0\n3 other 0 0 0 0 0 0\n4 other 0 0 0 0 0 0\n"
    ++ bytes "5 other 0 0 0 0 0 0\n6 other 0 0 0 0 0 0\n7 other 0 0 0 0 0 0\n8 other 0 0 0 0 0 0\n"

pub eight_at_most : map (λ n. statement_of (held n (replicate 9 zeros))) (8 ∷ 9 ∷ []) ≡ (eight ∷ eight ∷ [])
unfolding computing
eight_at_most = refl
