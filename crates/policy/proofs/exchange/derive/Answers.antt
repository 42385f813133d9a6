use borrow.Author.Rules.{rules}
use native.Mathlib.Omega.{arith}
use mathlib.Core.Path.{◌≡◌, ap, ◌∙◌}
use lib.ListN.{length, get_or}
use Rattle.std.proofs.lemmas.List.{length-take}
use Rattle.flow.specs.Session.{no_component}
use Rattle.flow.proofs.Slots.{eight_most}
use Rattle.policy.specs.Steps.{sees}
use Rattle.policy.proofs.Deriving.{seen_none, seen_next, all_built, looked_none, looked_next, kept_seen, classing_none, classing_next, classed_is, all_classed, past_below, past_at, past_end}
use Rattle.policy.proofs.exchange.derive.Goals as goal

pub loop-j-init : goal.loop-j-init
loop-j-init c = let e : c.default-components.result ≡ no_component = search rules in seen_none _ _ _ _ _ _ _ e c.nothing-sight.ensures

pub bounds-before-j : goal.bounds-before-j
bounds-before-j c = omega (arith, c.used-offered-items.ensures.count, eight_most c.args.offer.now.count)

pub bounds-answer-j : goal.bounds-answer-j
bounds-answer-j c = omega (arith, c.used-offered-items.ensures.count, eight_most c.args.offer.now.count)

pub bounds-components-j : goal.bounds-components-j
bounds-components-j c = omega (arith, c.used-offered-items.ensures.count, eight_most c.args.offer.now.count)

pub loop-j-preserved : goal.loop-j-preserved
loop-j-preserved c =
    seen_next _ _ _ _ _ c.used-offered-items.result.now _ _ _ _ _ c.used-offered-items.ensures.first c.loop-j.invariant (omega (arith, c.used-offered-items.ensures.count)) c.flows_of-now.ensures
    c.with-sight.ensures

pub slice_bounds-was-items-count : goal.slice_bounds-was-items-count
slice_bounds-was-items-count c = omega (arith, c.used-count.ensures.count, eight_most c.args.offer.now.count)

pub slice_bounds-was-items-start : goal.slice_bounds-was-items-start
slice_bounds-was-items-start c = omega (arith, c.used-count.ensures.count, eight_most c.args.offer.now.count)

pub loop-was-init : goal.loop-was-init
loop-was-init c = looked_none _ _ _ (omega (arith, c.used-count.ensures.count, eight_most c.args.offer.now.count))

pub loop-was-preserved : goal.loop-was-preserved
loop-was-preserved c =
    let h = past_below c.args.before.now.components (length c.used-count.result.now) c.loop-was.was-index c.loop-was-test.true in
    looked_next _ _ _ _ _ _ c.loop-was.invariant h
    (c.with_unused-sight.ensures
    ∙ ap (λ w. sees c.loop-was.sight w no_component) (past_at c.args.before.now.components (length c.used-count.result.now) c.loop-was.was-index h))

pub slice_bounds-components-end : goal.slice_bounds-components-end
slice_bounds-components-end c = omega (arith, c.used-count.ensures.count, eight_most c.args.offer.now.count, c.kept-kept.array_long)

pub loop-c-init : goal.loop-c-init
loop-c-init c = classing_none _ _

pub loop-c-preserved : goal.loop-c-preserved
loop-c-preserved c =
    classing_next _ _ c.loop-c.c-items _ _ c.loop-c.invariant (omega (arith, c.loop-c.invariant.same, c.loop-c-test.true))
    (omega (arith, c.used-count.ensures.count, eight_most c.args.offer.now.count, length-take (length c.used-count.result.now) c.loop-j.components))
    (classed_is c.kept-kept.result c.class_of-c.result (get_or c.loop-c.c-items c.loop-c.c-index no_component) c.class_of-c.ensures)

pub returns : goal.returns
returns c =
    let built = all_built _ _ _ _ _ _ _ _ c.loop-j.invariant (omega (arith, c.used-offered-items.ensures.count, c.loop-j-test.false)) in
    let long : length c.args.before.now.components ≡ 8 = search rules in
    let past = past_end c.args.before.now.components (length c.used-count.result.now) c.loop-was.was-index long
    (omega (arith, c.used-count.ensures.count, eight_most c.args.offer.now.count)) c.loop-was-test.false in
    let kept =
    kept_seen _ _ _ _ _ _ _ _ _ _ _ _ c.loop-j.invariant (omega (arith, c.used-offered-items.ensures.count, c.loop-j-test.false)) c.used-count.ensures.count c.loop-was.invariant past
    c.kept-kept.ensures in
    all_classed _ _ _ _ _ _ _ _ _ _ built kept c.used-count.ensures.count c.loop-c.invariant
    (omega (arith, c.loop-c-test.false, c.used-count.ensures.count, eight_most c.args.offer.now.count, length-take (length c.used-count.result.now) c.loop-j.components, c.kept-kept.array_long))

pub overflow_cast-result : goal.overflow_cast-result
overflow_cast-result c = omega (arith, c.used-count.ensures.count, eight_most c.args.offer.now.count)
