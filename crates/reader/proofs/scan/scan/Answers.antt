use Prim.Native.Nat.{◌≤◌}
use lib.ListN.{length}
use lib.Seq.{length-take-le}
use native.Mathlib.Omega.{arith}
use mathlib.Core.Path.{sym}
use Rattle.reader.proofs.Found.{Found, found, too_long, no_line, not_version, versioned}
use Rattle.reader.proofs.scan.scan.Goals as goal
use Rattle.reader.proofs.scan.scan.Goals.{In-Some, In-Some-line_at}

pub returns-in_default : goal.returns-in_default
returns-in_default c = too_long _ c.in_default.ensures

-- a text of at most 4,096 bytes
short : (c : In-Some) → length c.args.text.now ≤ 4096
short c = rw c.in-Some.ensures at c.in-Some.lines.short

-- its line 1
first : (c : In-Some-line_at) → Found c.args.text.now 0 c.in-Some-line_at.version
first c = rw c.in-Some.ensures at (found _ _ _ _ c.line_at.ensures c.in-Some-line_at.is)

pub returns-in_default-line_at : goal.returns-in_default-line_at
returns-in_default-line_at c = rw c.in-Some.ensures at (no_line _ c.in-Some.lines.short _ c.line_at.ensures c.in_default-line_at.is)

pub slice_bounds-same-end : goal.slice_bounds-same-end
slice_bounds-same-end c =
    let f = first c in
    sym (length-take-le _ _ (omega (arith, f.later, f.inside)))

pub returns-then-not-same : goal.returns-then-not-same
returns-then-not-same c =
    let at = goal.at.returns-then-not-same c in
    not_version _ (short at.In-Some) _ (first at.In-Some-line_at) _ c.same.ensures c.if-not-same.true

pub returns : goal.returns
returns c =
    let at = goal.at.returns c in
    versioned _ (short at.In-Some) _ (first at.In-Some-line_at) _ c.same.ensures c.if-not-same.false _ (rw c.in-Some.ensures at c.sections.ensures)
