use mathlib.Core.Path.{refl}
use borrow.Author.Rules.{rules}
use native.Mathlib.Omega.{arith}
use Rattle.put.proofs.Rest.{rest_puts}
use Rattle.stating.proofs.Lengths.{few}
use Rattle.stating.proofs.Fields.{count_takes, lines_more, lines_all}
use Rattle.stating.proofs.lines.put_lines.Goals as goal

pub loop-j-init : goal.loop-j-init
loop-j-init c = count_takes _ _ c.word.ensures c.numbers.ensures c.byte.ensures

pub offset_bounds-held-j : goal.offset_bounds-held-j
offset_bounds-held-j c = let h = few _ c.up_to_eight-count.ensures in omega arith

pub bounds-held-j : goal.bounds-held-j
bounds-held-j c = let h = few _ c.up_to_eight-count.ensures in omega arith

pub loop-j-preserved : goal.loop-j-preserved
loop-j-preserved c =
    lines_more _ _ _ c.loop-j.invariant
    (record { puts = rest_puts (search rules) c.min-from.ensures c.put_component-length.ensures c.saturating_add-out.ensures; lent = refl })

pub returns : goal.returns
returns c = lines_all _ _ _ (rw c.from.ensures at c.up_to_eight-count.ensures) c.loop-j.auto.j-end c.loop-j-test.false c.loop-j.invariant
