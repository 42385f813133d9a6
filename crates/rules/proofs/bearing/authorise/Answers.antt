use borrow.Author.Rules.{rules}
use mathlib.Core.Path.{◌≡◌, sym, ◌∙◌}
use Rattle.rules.specs.Steps.{no_sum}
use Rattle.rules.proofs.Authorising.{none_named, all_covered, not_covered}
use Rattle.rules.proofs.bearing.authorise.Goals as goal

pub returns-in-None : goal.returns-in-None
returns-in-None c =
    let e : c.default.result ≡ no_sum = search rules in
    c.answer.ensures ∙ rw e (none_named c.args.held.now c.args.asked (sym c.sum_over.ensures ∙ c.in-None.is))

pub returns-in-Some : goal.returns-in-Some
returns-in-Some c =
    c.answer-in-Some.ensures
    ∙ all_covered c.args.held.now c.args.asked c.in-Some.sum (sym c.sum_over.ensures ∙ c.in-Some.is) (sym c.covers.ensures ∙ c.if-covers.true)

pub returns-in-Some-2 : goal.returns-in-Some-2
returns-in-Some-2 c =
    c.answer-in-Some-2.ensures
    ∙ not_covered c.args.held.now c.args.asked c.in-Some.sum (sym c.sum_over.ensures ∙ c.in-Some.is) (sym c.covers.ensures ∙ c.if-covers.false)
