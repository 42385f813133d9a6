use Rattle.player.proofs.Whole.{roomy, too_long, fitting}
use Rattle.player.proofs.play.Goals as goal
use Rattle.player.proofs.play.Goals.{then-out-room+else-out-need, else-out-room}

pub returns-then-out-need : goal.returns-then-out-need
returns-then-out-need c =
    let w = too_long _ _ c.read-read.ensures _ _ _ c.put_all-need.ensures c.if-out-need.true in
    record { value = w.0; out_after = w.1 }

pub returns : goal.returns
returns c =
    elim c.if-out-room.branch [
      | then-out-room+else-out-need w ↦
          let v = fitting _ _ c.read-read.ensures _ _ _ w.put_all-need.ensures w.if-out-need.false _ _ (rw w.out-is at c.put_all.ensures) in
          record { value = v.0; out_after = v.1 }
      | else-out-room w ↦
          let v = roomy _ _ c.read-read.ensures _ _ (rw c.calls_of.ensures at c.room.ensures) w.if-out-room.false _ _ (rw w.out-is at c.put_all.ensures) in
          record { value = v.0; out_after = v.1 }
    ]
