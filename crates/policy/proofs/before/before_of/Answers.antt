use borrow.Author.Rules.{rules}
use native.Mathlib.Omega.{arith}
use mathlib.Core.Path.{◌≡◌}
use Rattle.flow.specs.Before.{no_was}
use Rattle.flow.proofs.Slots.{eight_most}
use Rattle.policy.proofs.Beforehand.{noted_none, noted_next, all_noted}
use Rattle.policy.proofs.before.before_of.Goals as goal

pub loop-j-init : goal.loop-j-init
loop-j-init c = let e : c.default-components.result ≡ no_was = search rules in noted_none c.args.held.now c.default-components.result e

pub bounds-components-j : goal.bounds-components-j
bounds-components-j c = omega (arith, c.used-c-items.ensures.count, eight_most c.args.held.now.count)

pub loop-j-preserved : goal.loop-j-preserved
loop-j-preserved c =
    noted_next c.args.held.now c.used-c-items.result.now c.loop-j.components c.loop-j.j c.was_of.result c.used-c-items.ensures.first c.loop-j.invariant (omega (arith, c.used-c-items.ensures.count))
    c.was_of.ensures

pub returns : goal.returns
returns c = all_noted c.args.held.now _ _ c.loop-j.invariant (omega (arith, c.used-c-items.ensures.count))
