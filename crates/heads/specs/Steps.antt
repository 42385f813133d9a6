-- The head of an `m=` line, in the terms of the cursor: what stands before its formats. The promise of `read`, above it, cites none of it.
use Rattle.std.specs.Prelude.{ℕ, List, Option, Some, None, Result, Ok, Err, cond, drop, leb}
use Rattle.std.specs.Option.{ok_or}
use Rattle.cursor.specs.Bytes.{split}
use Rattle.cursor.specs.Cursor.{field_at, mark_at, figure_at, on_some}
use Rattle.cursor.specs.Parts.{part, some_fields}
use Rattle.sdp.specs.Media.{kind_of, transport_of, verdict, space, media_of}
use Rattle.sdp.specs.Text.{most_media}
use Rattle.sdp.specs.declared.fault.Fault.{Fault}
use Rattle.sdp.specs.declared.fault.Fault.TheVariants as fault
use Rattle.sdp.specs.declared.media_line.MediaLine.{MediaLine}
use Rattle.heads.specs.declared.Head.{Head}

-- media, port and transport, one space after each
unfoldable pub fields_at : List ℕ → Option Head
fields_at v =
    on_some (field_at v 0) None λ (a, b, p1).
    on_some (mark_at v p1.at space) None λ p2.
    on_some (figure_at v p2.at 5 65535) None λ (port, p3).
    on_some (mark_at v p3.at space) None λ p4.
    on_some (field_at v p4.at) None λ (c, d, p5).
    on_some (mark_at v p5.at space) None λ p6.
    Some (record { kind = kind_of (part v a b); port = port; transport = transport_of (part v c d); formats = p6 })

-- the same, or the fault of an `m=` line before its formats: the ninth is 5, else 3
unfoldable pub head_at : ℕ → List ℕ → Result Head Fault
head_at count v = cond (leb most_media count) (Err fault.Ninth) (ok_or (fields_at v) fault.MediaLine)

-- an `m=` line by its head: the formats are left
abbrev pub with_formats : List ℕ → Result Head Fault → Result MediaLine Fault
with_formats v (Ok h) = cond (some_fields (split space (drop h.formats.at v))) (verdict h.kind h.port h.transport) (Err fault.MediaLine)
with_formats v (Err f) = Err f

-- an `m=` line where `count` came before
abbrev pub media_at : ℕ → List ℕ → Result MediaLine Fault
media_at count v = cond (leb most_media count) (Err fault.Ninth) (media_of v)
