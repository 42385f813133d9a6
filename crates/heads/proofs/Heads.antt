-- The head of an `m=` line, step by step, and then its formats: what the cursor finds is what the definition says of the fields. Assumes nothing.
use Prim.Native.Nat.{ℕ}
use mathlib.Core.Path.{◌≡◌, refl}
use mathlib.Core.List.{List}
use mathlib.Core.Bool.{Bool, true, false, cond}
use lib.ListN.{drop}
use lib.Dec.{leb}
use native.Mathlib.Omega.{arith}
use mir.Syntax.{w16}
use mir.Val.{Fits}
use Rattle.cursor.specs.Bytes.{split, is_digit}
use Rattle.cursor.specs.Cursor.{field_at, mark_at, figure_at, on_some}
use Rattle.cursor.specs.Parts.{part, on_field, on_number, some_fields}
use Rattle.cursor.specs.declared.Cursor.{Cursor}
use Rattle.cursor.proofs.Parts.{fld_bad, fld_last, fld_more}
use Rattle.cursor.proofs.Numbers.{figured, fig_bad, fig_more, fig_stop}
use Rattle.sdp.specs.Media.{kind_of, transport_of, verdict, media_of}
use Rattle.std.specs.Option.{ok_or}
use Rattle.heads.specs.Steps.{fields_at, head_at, with_formats, media_at}
use Rattle.heads.specs.declared.Head.{Head}
use Rattle.std.specs.Prelude.{Option, Some, None, Result, Err}
use Rattle.sdp.specs.declared.fault.Fault.{Fault}
use Rattle.sdp.specs.declared.fault.Fault.TheVariants as fault
use Rattle.sdp.specs.declared.media_line.MediaLine.{MediaLine}

space_no_digit : is_digit 32 ≡ false
unfolding is_digit
space_no_digit = refl

abbrev bad : Result MediaLine Fault
bad = Err fault.MediaLine

-- the rest of the definition, from the third field on, and from the second on
abbrev from_third : List ℕ → List (List ℕ) → ℕ → Result MediaLine Fault
from_third name fields port = on_field fields bad (λ transport formats. cond (some_fields formats) (verdict (kind_of name) port (transport_of transport)) bad)

abbrev from_second : List ℕ → List (List ℕ) → Result MediaLine Fault
from_second name fields = on_number 5 65535 fields bad (λ port rest. from_third name rest port)

-- the rest of the head, step by step
abbrev with_formats_at : List ℕ → ℕ → ℕ → ℕ → ℕ → ℕ → Cursor → Option Head
with_formats_at v a b port c d q = Some (record { kind = kind_of (part v a b); port = port; transport = transport_of (part v c d); formats = q })

abbrev with_transport : List ℕ → ℕ → ℕ → ℕ → ℕ × ℕ × Cursor → Option Head
with_transport v a b port (c, d, p5) = on_some (mark_at v p5.at 32) None (with_formats_at v a b port c d)

abbrev with_third : List ℕ → ℕ → ℕ → ℕ → Cursor → Option Head
with_third v a b port p4 = on_some (field_at v p4.at) None (with_transport v a b port)

abbrev with_port : List ℕ → ℕ → ℕ → ℕ × Cursor → Option Head
with_port v a b (port, p3) = on_some (mark_at v p3.at 32) None (with_third v a b port)

abbrev with_second : List ℕ → ℕ → ℕ → Cursor → Option Head
with_second v a b p2 = on_some (figure_at v p2.at 5 65535) None (with_port v a b)

abbrev with_name : List ℕ → ℕ × ℕ × Cursor → Option Head
with_name v (a, b, p1) = on_some (mark_at v p1.at 32) None (with_second v a b)

-- a figure of at most 65,535 is one of 16 bits
pub port_fits : (v : List ℕ) (at : ℕ) (m : Option (ℕ × Cursor)) → m ≡ figure_at v at 5 65535 → (port : ℕ) (p : Cursor) → m ≡ Some (port, p) → Fits w16 port
port_fits v at m h port p k = omega (arith, (figured v at 5 65535 m port p h k).small)

-- each step, by what the cursor finds there, either has no head, and the line's fault is 3, or goes on
module _ (v : List ℕ) where
  counted : (x : Result MediaLine Fault) → x ≡ on_field (split 32 v) bad from_second → x ≡ media_of v
  unfolding media_of
  counted x h = h

  module _ (m1 : Option (ℕ × ℕ × Cursor)) (h1 : m1 ≡ field_at v 0) (a b : ℕ) (p1 : Cursor) (k1 : m1 ≡ Some (a, b, p1))
      (w2 : Option Cursor) (h2 : w2 ≡ mark_at v p1.at 32) (p2 : Cursor) (k2 : w2 ≡ Some p2) where
    named : (x : Result MediaLine Fault) → x ≡ from_second (part v a b) (split 32 (drop p2.at v)) → x ≡ media_of v
    named x z = counted x (fld_more x bad from_second v 0 m1 h1 a b p1 k1 w2 h2 p2 k2 z)

    abbrev then : ℕ → List (List ℕ) → Result MediaLine Fault
    then port rest = from_third (part v a b) rest port

    module _ (m3 : Option (ℕ × Cursor)) (h3 : m3 ≡ figure_at v p2.at 5 65535) (port : ℕ) (p3 : Cursor) (k3 : m3 ≡ Some (port, p3))
        (w4 : Option Cursor) (h4 : w4 ≡ mark_at v p3.at 32) (p4 : Cursor) (k4 : w4 ≡ Some p4) where
      ported : (x : Result MediaLine Fault) → x ≡ from_third (part v a b) (split 32 (drop p4.at v)) port → x ≡ media_of v
      ported x z = named x (fig_more x bad 5 65535 then 32 space_no_digit v p2.at m3 h3 port p3 k3 w4 p4 h4 k4 z)

      abbrev last : List ℕ → List (List ℕ) → Result MediaLine Fault
      last transport formats = cond (some_fields formats) (verdict (kind_of (part v a b)) port (transport_of transport)) bad

      third : (m5 : Option (ℕ × ℕ × Cursor)) → m5 ≡ field_at v p4.at → with_formats v (ok_or (on_some m5 None (with_transport v a b port)) fault.MediaLine) ≡ media_of v
      unfolding some_fields
      third None h5 = ported bad (fld_bad bad bad last v p4.at None h5 refl refl)
      third (Some (c, d, p5)) h5 = by (mark_at v p5.at 32) refl where
        by : (w6 : Option Cursor) → w6 ≡ mark_at v p5.at 32 → with_formats v (ok_or (on_some w6 None (with_formats_at v a b port c d)) fault.MediaLine) ≡ media_of v
        by None h6 = ported bad (fld_last bad bad last v p4.at (Some (c, d, p5)) h5 c d p5 refl None h6 refl refl)
        by (Some p6) h6 = ported _ (fld_more _ bad last v p4.at (Some (c, d, p5)) h5 c d p5 refl (Some p6) h6 p6 refl refl)

    second : (m3 : Option (ℕ × Cursor)) → m3 ≡ figure_at v p2.at 5 65535 → with_formats v (ok_or (on_some m3 None (with_port v a b)) fault.MediaLine) ≡ media_of v
    second None h3 = named bad (fig_bad bad bad 5 65535 then 32 space_no_digit v p2.at None h3 (omega arith) refl refl)
    second (Some (port, p3)) h3 = by (mark_at v p3.at 32) refl where
      by : (w4 : Option Cursor) → w4 ≡ mark_at v p3.at 32 → with_formats v (ok_or (on_some w4 None (with_third v a b port)) fault.MediaLine) ≡ media_of v
      by None h4 = named bad (fig_stop bad bad 5 65535 then 32 space_no_digit v p2.at (Some (port, p3)) h3 port p3 refl None h4 refl (λ n. refl) refl)
      by (Some p4) h4 = third (Some (port, p3)) h3 port p3 refl (Some p4) h4 p4 refl (field_at v p4.at) refl

  first : (m1 : Option (ℕ × ℕ × Cursor)) → m1 ≡ field_at v 0 → with_formats v (ok_or (on_some m1 None (with_name v)) fault.MediaLine) ≡ media_of v
  first None h1 = counted bad (fld_bad bad bad from_second v 0 None h1 refl refl)
  first (Some (a, b, p1)) h1 = by (mark_at v p1.at 32) refl where
    by : (w2 : Option Cursor) → w2 ≡ mark_at v p1.at 32 → with_formats v (ok_or (on_some w2 None (with_second v a b)) fault.MediaLine) ≡ media_of v
    by None h2 = counted bad (fld_last bad bad from_second v 0 (Some (a, b, p1)) h1 a b p1 refl None h2 refl refl)
    by (Some p2) h2 = second (Some (a, b, p1)) h1 a b p1 refl (Some p2) h2 p2 refl (figure_at v p2.at 5 65535) refl

-- the head and then the formats are the line
pub head_says : (count : ℕ) (v : List ℕ) → with_formats v (head_at count v) ≡ media_at count v
unfolding head_at fields_at
head_says count v = by (leb 8 count) where
  by : (t : Bool) → with_formats v (cond t (Err fault.Ninth) (ok_or (fields_at v) fault.MediaLine)) ≡ cond t (Err fault.Ninth) (media_of v)
  by true = refl
  by false = first v (field_at v 0) refl
