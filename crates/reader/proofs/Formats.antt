-- An `m=` line by its head, its formats and its verdict. Assumes nothing.
use Prim.Native.Nat.{ℕ}
use mathlib.Core.Path.{◌≡◌, ◌∙◌}
use mathlib.Core.List.{List}
use mathlib.Core.Bool.{true, false}
use lib.ListN.{drop}
use Rattle.std.specs.Prelude.{Result, Ok, Err}
use Rattle.cursor.specs.Bytes.{split}
use Rattle.cursor.specs.Parts.{none_empty}
use Rattle.cursor.proofs.Parts.{some_split}
use Rattle.sdp.specs.Media.{verdict}
use Rattle.sdp.specs.declared.fault.Fault.{Fault}
use Rattle.sdp.specs.declared.fault.Fault.TheVariants as fault
use Rattle.sdp.specs.declared.media_line.MediaLine.{MediaLine}
use Rattle.heads.specs.Steps.{head_at, with_formats, media_at}
use Rattle.heads.specs.declared.Head.{Head}
use Rattle.heads.proofs.Heads.{head_says}

module _ (n : ℕ) (v : List ℕ) (r : Result Head Fault) (hr : r ≡ head_at n v) where
  by_formats : with_formats v r ≡ media_at n v
  by_formats = rw hr (head_says n v)

  pub no_head : (k : Fault) → r ≡ Err k → Err k ≡ media_at n v
  no_head k e = rw e at by_formats

  module _ (d : Head) (e : r ≡ Ok d) where
    pub no_format : none_empty (split 32 (drop d.formats.at v)) ≡ false → Err fault.MediaLine ≡ media_at n v
    no_format q = rw (e, some_split 32 (drop d.formats.at v), q) at by_formats

    pub judged : none_empty (split 32 (drop d.formats.at v)) ≡ true → (m : Result MediaLine Fault) → m ≡ verdict d.kind d.port d.transport → m ≡ media_at n v
    judged q m hm = hm ∙ rw (e, some_split 32 (drop d.formats.at v), q) at by_formats
