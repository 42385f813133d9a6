-- "Statement. Into a lent buffer, each line written into the rest after the line before; bytes past the end unchanged; the length is
-- returned, on 20 the length needed".
use Rattle.std.specs.Prelude.{ℕ, suc, List, [], ◌∷◌, ◌++◌, cond, length, drop, leb, eqb}
use Rattle.cursor.specs.Bytes.{bytes}
use Rattle.put.specs.Number.{decimal}
use Rattle.sdp.specs.Line.{lf}
use Rattle.sdp.specs.Media.{space, audio_kind, video_kind, application_kind, data_kind, control_kind}
use Rattle.flow.specs.declared.Component.{Component}
use Rattle.flow.specs.declared.Held.{Held}
use Rattle.flow.specs.Slots.{through, up_to_eight}
use Rattle.flow.specs.Session.{held_at}
use Rattle.statement.specs.declared.Written.{Written}

-- "Lines end in LF, single spaces between fields"
unfoldable pub line : List (List ℕ) → List ℕ
line [] = lf ∷ []
line (field ∷ []) = field ++ (lf ∷ [])
line (field ∷ next ∷ fields) = field ++ (space ∷ line (next ∷ fields))

-- "kind by name": the kinds of a media description
unfoldable pub kind_name : ℕ → List ℕ
kind_name kind =
    cond (eqb kind audio_kind) (bytes "audio")
    (cond (eqb kind video_kind) (bytes "video")
    (cond (eqb kind application_kind) (bytes "application")
    (cond (eqb kind data_kind) (bytes "data")
    (cond (eqb kind control_kind) (bytes "control") (bytes "other")))))

-- "per component its number, kind by name, status, class, media up, media down, RTCP up, RTCP down"
unfoldable pub component_line : ℕ → Component → List ℕ
component_line number c =
    line
    (decimal number
    ∷ kind_name c.kind
    ∷ decimal c.status
    ∷ decimal c.class
    ∷ decimal c.up.media
    ∷ decimal c.down.media
    ∷ decimal c.up.rtcp.0
    ∷ decimal c.down.rtcp.0
    ∷ [])

-- "`components` and the count"
unfoldable pub count_line : ℕ → List ℕ
count_line count = line (bytes "components" ∷ decimal count ∷ [])

-- "then per component": the lines of the first n components, which are numbered from 1
unfoldable pub component_lines : Held → ℕ → List ℕ
component_lines held = through (λ j lines. lines ++ component_line (suc j) (held_at held j)) []

unfoldable pub statement_of : Held → List ℕ
statement_of held = count_line (up_to_eight held.count) ++ component_lines held (up_to_eight held.count)

-- 20: "statement does not fit the buffer"; "the length is returned, on 20 the length needed"
unfoldable pub written : Held → ℕ → Written
written held room =
    cond (leb (length (statement_of held)) room) (record { refusal = 0; length = length (statement_of held) })
    (record { refusal = 20; length = length (statement_of held) })

-- what the buffer l holds afterwards: "bytes past the end unchanged", and all of it where the statement does not fit
unfoldable pub after : Held → List ℕ → List ℕ
after held l =
    cond (leb (length (statement_of held)) (length l)) (statement_of held ++ drop (length (statement_of held)) l) l
