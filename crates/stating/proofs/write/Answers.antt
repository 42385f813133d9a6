use mathlib.Core.Path.{◌∙◌}
use native.Mathlib.Omega.{arith}
use Rattle.stating.proofs.Lengths.{few}
use Rattle.stating.proofs.Writing.{roomy, stays, refused, fits, whole}
use Rattle.stating.proofs.write.Goals as goal
use Rattle.stating.proofs.write.Goals.{then-out-most+else-out-need, else-out-most}

pub overflow_mul-most : goal.overflow_mul-most
overflow_mul-most c = let h = few _ c.up_to_eight.ensures in omega arith

pub overflow_add-most : goal.overflow_add-most
overflow_add-most c = let h = few _ c.up_to_eight.ensures in omega arith

pub returns-then-out-need : goal.returns-then-out-need
returns-then-out-need c =
    let w = refused _ _ _ _ c.put_all-need.ensures c.if-out-need.true in
    record { value = w.0; out_after = w.1 }

pub returns : goal.returns
returns c =
    elim c.if-out-most.branch [
      | then-out-most+else-out-need w ↦
          let e = w.out-is ∙ stays _ _ _ _ w.put_all-need.ensures in
          let v = whole _ _ _ _ (fits _ _ _ _ w.put_all-need.ensures w.if-out-need.false) (rw e at c.put_all-length.ensures) in
          record { value = v.0; out_after = v.1 }
      | else-out-most w ↦
          let v = whole _ _ _ _ (roomy _ _ _ (rw c.from.ensures at c.up_to_eight.ensures) w.if-out-most.false) (rw w.out-is at c.put_all-length.ensures) in
          record { value = v.0; out_after = v.1 }
    ]
