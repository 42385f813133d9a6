use Rattle.deciding.proofs.Decisions.{inside, offer_part, answer_part}
use Rattle.deciding.proofs.deciding_line.Goals as goal
use Rattle.deciding.proofs.deciding_line.Goals.{then-d-eq1, else-d-eq1}

pub slice_bounds-result-count : goal.slice_bounds-result-count
slice_bounds-result-count c = (inside _ _ _ _ c.decide-d.ensures).ordered

pub slice_bounds-result-start : goal.slice_bounds-result-start
slice_bounds-result-start c = (inside _ _ _ _ c.decide-d.ensures).ordered

pub slice_bounds-result-end : goal.slice_bounds-result-end
slice_bounds-result-end c =
    elim c.if-d-eq1.branch [
      | then-d-eq1 w ↦ rw w.text-is ((inside _ _ _ _ c.decide-d.ensures).in_offer w.if-d-eq1.true)
      | else-d-eq1 w ↦ rw w.text-is ((inside _ _ _ _ c.decide-d.ensures).in_answer w.if-d-eq1.false)
    ]

pub returns : goal.returns
returns c =
    elim c.if-d-eq1.branch [
      | then-d-eq1 w ↦ rw w.text-is (offer_part _ _ _ _ c.decide-d.ensures w.if-d-eq1.true)
      | else-d-eq1 w ↦ rw w.text-is (answer_part _ _ _ _ c.decide-d.ensures w.if-d-eq1.false)
    ]
