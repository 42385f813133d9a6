use mathlib.Core.Path.{◌≡◌}
use Rattle.sdp.specs.Direction.{inactive}
use Rattle.policy.proofs.Answers.{offer_decides, answer_decides}
use Rattle.policy.proofs.status.status_of.Goals as goal

pub returns-then-offer-from : goal.returns-then-offer-from
returns-then-offer-from c =
    let e : c.args.offer.now.direction ≡ inactive = cc in
    offer_decides c.args.origin c.args.offer.now c.args.answer.now _ _ c.port_of-port.ensures e c.by_text.ensures

pub returns : goal.returns
returns c =
    let e : c.args.offer.now.direction ≡ inactive → ⊥ = λ f. c.if-offer-from.false cc in
    answer_decides c.args.origin c.args.offer.now c.args.answer.now _ _ c.port_of-port.ensures e c.by_text-2.ensures
