use Prim.Native.Nat.{◌≤◌}
use lib.ListN.{length}
use native.Mathlib.Omega.{arith}
use mathlib.Core.Path.{◌≡◌, ◌∙◌, ap, refl, sym}
use Rattle.cursor.proofs.Parts.{walk_empty, walk_last, walk_on, walk_falls}
use Rattle.reader.proofs.Formats.{no_head, no_format, judged}
use Rattle.reader.proofs.Found.{Found, found}
use Rattle.reader.proofs.Turns.{begin, Stored, ends_some, stored, store_yes, store_no, room, no_more, media_on, media_out, line_on, line_out, nothing_on}
use Rattle.reader.specs.declared.scan.Here.{Here}
use Rattle.reader.proofs.scan.sections.Goals as goal
use Rattle.reader.proofs.scan.sections.Goals.{In-Some, Joined-ends, Joined-line-eq109, then-ends, else-ends}
use Rattle.reader.proofs.scan.sections.Goals.{then-line-eq109+in-Ok+in-Last+in-Ok-judged, else-line-eq109+then-matters+in-Ok-told, else-line-eq109+else-matters}

-- the text so far, where the end of a section has been seen to
kept : (c : Joined-ends) → Stored c.lines.invariant.place c.lines.out c.if-ends.out c.line_at-line.result
kept c =
    let g = c.lines.invariant in
    let l = c.line_at-line.result in
    let e = c.ends.ensures in
    elim c.if-ends.branch [
      | then-ends w ↦
          store_yes _ _ _ _ g l _ e _ w.if-ends.true
          (w.out-is ∙ stored _ _ _ _ g _ _ _ _ (ends_some _ _ _ _ g l _ e w.if-ends.true) refl refl w.media.ensures refl)
      | else-ends w ↦ store_no _ _ _ _ g l _ e _ w.if-ends.false w.out-is
    ]

-- the line that was found, in a text of at most 4,096 bytes
line_found : (c : In-Some) → Found c.args.lines.now.text.now c.lines.here.at c.in-Some.line
line_found c = found _ _ _ _ c.line_at-line.ensures c.in-Some.is

short : (c : In-Some) → length c.args.lines.now.text.now ≤ 4096
short c = c.args.lines.now.short

-- a line leaves the number of the line that was read
same_line : (c : Joined-line-eq109) → c.if-line-eq109.here.line ≡ c.lines.here.line
same_line c =
    elim c.if-line-eq109.branch [
      | then-line-eq109+in-Ok+in-Last+in-Ok-judged w ↦ ap (λ (h : Here). h.line) (w.here-is ∙ w.begun-here.ensures)
      | else-line-eq109+then-matters+in-Ok-told w ↦ ap (λ (h : Here). h.line) w.here-is
      | else-line-eq109+else-matters w ↦ ap (λ (h : Here). h.line) w.here-is
    ]

pub lines-init : goal.lines-init
lines-init c = begin _ _ _ _ c.requires c.start-here.ensures

pub overflow_add-v : goal.overflow_add-v
overflow_add-v c = let f = line_found (goal.at.overflow_add-v c).In-Some in omega (arith, f.long, f.later, f.inside)

pub slice_bounds-v-count : goal.slice_bounds-v-count
slice_bounds-v-count c = let f = line_found (goal.at.slice_bounds-v-count c).In-Some in f.long

pub slice_bounds-v-start : goal.slice_bounds-v-start
slice_bounds-v-start c = let f = line_found (goal.at.slice_bounds-v-start c).In-Some in omega (arith, f.long, f.later, f.inside)

pub slice_bounds-v-end : goal.slice_bounds-v-end
slice_bounds-v-end c = let f = line_found (goal.at.slice_bounds-v-end c).In-Some in omega (arith, f.long, f.later, f.inside)

pub span-span-requires : goal.span-span-requires
span-span-requires c =
    let k = (goal.at.span-span-requires c).In-Some in
    let f = line_found k in
    omega (arith, f.long, f.later, f.inside, short k)

pub fields-smaller : goal.fields-smaller
fields-smaller c = search walk_falls

pub fields-preserved : goal.fields-preserved
fields-preserved c = search walk_on

pub begun-here-requires : goal.begun-here-requires
begun-here-requires c =
    let d = (goal.at.begun-here-requires c).In-Some in
    let k = kept (goal.at.begun-here-requires c).Joined-ends in
    let g = c.lines.invariant in
    let l = c.line_at-line.ensures in
    let f = line_found d in
    let e = c.in-Some.is in
    room _ _ _ _ g _ l _ k _ f e _ c.span-span.ensures.from c.span-span.ensures.to _ (sym (judged _ _ _ c.head_of-said.ensures _ c.in-Ok.is (walk_last _ _ _ c.fields.invariant _ c.next_field.ensures c.in-Last.is) _ c.judge-judged.ensures) ∙ c.in-Ok-judged.is)

pub overflow_add-here : goal.overflow_add-here
overflow_add-here c =
    let k = (goal.at.overflow_add-here c).In-Some in
    let f = line_found k in
    omega (arith, c.lines.invariant.numbered.1, same_line (goal.at.overflow_add-here c).Joined-line-eq109, f.long, f.later, f.inside, short k)

pub lines-smaller : goal.lines-smaller
lines-smaller c = let f = line_found (goal.at.lines-smaller c).In-Some in omega (arith, f.long, f.later, f.inside)

pub lines-preserved : goal.lines-preserved
lines-preserved c =
    let d = (goal.at.lines-preserved c).In-Some in
    let k = kept (goal.at.lines-preserved c).Joined-ends in
    let g = c.lines.invariant in
    let l = c.line_at-line.ensures in
    let f = line_found d in
    let e = c.in-Some.is in
    elim c.if-line-eq109.branch [
      | then-line-eq109+in-Ok+in-Last+in-Ok-judged w ↦
          let says = judged _ _ _ w.head_of-said.ensures _ w.in-Ok.is (walk_last _ _ _ w.fields.invariant _ w.next_field.ensures w.in-Last.is) _ w.judge-judged.ensures in
          rw (w.here-is, w.begun-here.ensures) (media_on _ _ _ _ g _ l _ k _ f e _ c.span-span.ensures.from c.span-span.ensures.to w.if-line-eq109.true _ says _ w.in-Ok-judged.is)
      | else-line-eq109+then-matters+in-Ok-told w ↦
          rw w.here-is (line_on _ _ _ _ g _ l _ k _ f e _ c.span-span.ensures.from c.span-span.ensures.to w.if-line-eq109.false _ w.told-told.ensures _ w.in-Ok-told.is)
      | else-line-eq109+else-matters w ↦
          rw w.here-is (nothing_on _ _ _ _ g _ l _ k _ f e _ c.span-span.ensures.from c.span-span.ensures.to w.if-line-eq109.false _ w.matters.ensures w.if-matters.false)
    ]

pub returns-in_default : goal.returns-in_default
returns-in_default c =
    let k = kept (goal.at.returns-in_default c).Joined-ends in
    no_more _ _ _ _ c.lines.invariant _ c.line_at-line.ensures _ k c.in_default.is _ c.stop.ensures

pub returns-in-Empty : goal.returns-in-Empty
returns-in-Empty c =
    let d = (goal.at.returns-in-Empty c).In-Some in
    let k = kept (goal.at.returns-in-Empty c).Joined-ends in
    let g = c.lines.invariant in
    let l = c.line_at-line.ensures in
    let f = line_found d in
    let e = c.in-Some.is in
    let says = no_format _ _ _ c.head_of-said.ensures _ c.in-Ok.is (walk_empty _ _ _ c.fields.invariant _ c.next_field.ensures c.in-Empty.is) in
    rw (c.of.ensures.number, c.of.ensures.place) (media_out _ _ _ _ g _ l _ k _ f e _ c.span-span.ensures.from c.span-span.ensures.to c.if-line-eq109.true _ says _ refl)

pub returns-in_default-said : goal.returns-in_default-said
returns-in_default-said c =
    let d = (goal.at.returns-in_default-said c).In-Some in
    let k = kept (goal.at.returns-in_default-said c).Joined-ends in
    let g = c.lines.invariant in
    let l = c.line_at-line.ensures in
    let f = line_found d in
    let e = c.in-Some.is in
    let says = no_head _ _ _ c.head_of-said.ensures _ c.in_default-said.is in
    rw (rw c.in_default-said.is at c.refused.ensures)
    (media_out _ _ _ _ g _ l _ k _ f e _ c.span-span.ensures.from c.span-span.ensures.to c.if-line-eq109.true _ says _ refl)

pub returns-in_default-judged : goal.returns-in_default-judged
returns-in_default-judged c =
    let d = (goal.at.returns-in_default-judged c).In-Some in
    let k = kept (goal.at.returns-in_default-judged c).Joined-ends in
    let g = c.lines.invariant in
    let l = c.line_at-line.ensures in
    let f = line_found d in
    let e = c.in-Some.is in
    let says = judged _ _ _ c.head_of-said.ensures _ c.in-Ok.is (walk_last _ _ _ c.fields.invariant _ c.next_field.ensures c.in-Last.is) _ c.judge-judged.ensures in
    rw (rw c.in_default-judged.is at c.refused-in_default-judged.ensures)
    (media_out _ _ _ _ g _ l _ k _ f e _ c.span-span.ensures.from c.span-span.ensures.to c.if-line-eq109.true _ says _ c.in_default-judged.is)

pub returns-in_default-told : goal.returns-in_default-told
returns-in_default-told c =
    let d = (goal.at.returns-in_default-told c).In-Some in
    let k = kept (goal.at.returns-in_default-told c).Joined-ends in
    let g = c.lines.invariant in
    let l = c.line_at-line.ensures in
    let f = line_found d in
    let e = c.in-Some.is in
    rw (rw c.in_default-told.is at c.refused-in_default-told.ensures)
    (line_out _ _ _ _ g _ l _ k _ f e _ c.span-span.ensures.from c.span-span.ensures.to c.if-line-eq109.false _ c.told-told.ensures _ c.in_default-told.is)
