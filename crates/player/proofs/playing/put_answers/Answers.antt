-- The loop over the calls, turn by turn; after a turn the two ways of a session meet. Assumes nothing.
use native.Mathlib.Omega.{arith}
use mathlib.Core.Path.{refl, ◌∙◌}
use Rattle.player.proofs.Turns.{turn_begin, turn_bad, turn_made, turn_over, sums_fit, steps_from, far_played, near_played}
use Rattle.player.proofs.playing.put_answers.Goals as goal
use Rattle.player.proofs.playing.put_answers.Goals.{then-session-lt16, else-session-lt16, else-loop-i-test, then-loop-i-test+in_default}

pub loop-i-init : goal.loop-i-init
loop-i-init c =
    let good = c.well_formed in
    turn_begin _ _ _ _ _ _ _
    (record { media = record { up = omega (arith, good); down = omega (arith, good) }; rtcp = record { up = omega (arith, good); down = omega (arith, good) } })
    (omega (arith, good), omega (arith, good))
    _
    c.fresh-rows.ensures
    _
    refl

pub add-booked-requires : goal.add-booked-requires
add-booked-requires c =
    let g = c.loop-i.invariant in
    let near = rw c.session-session.ensures at c.if-session-lt16.true in
    sums_fit _ _ _ _ _ _ _ g _ near _
    (steps_from _ _ _ _ _ _ _ g _ _ _ _ _ _ near (rw c.session-session.ensures at c.step-stepped.ensures) c.seen.ensures c.spanned-text.ensures c.named_by.ensures)

pub loop-i-preserved : goal.loop-i-preserved
loop-i-preserved c =
    let g = c.loop-i.invariant in
    turn_made _ _ _ _ _ _ _ g _ _ _ c.ask_at.ensures c.in-Some.is c.loop-i-test.true _ _ _
    (elim c.if-session-lt16.branch [
      | then-session-lt16 w ↦
          let near = rw c.session-session.ensures at w.if-session-lt16.true in
          let step = steps_from _ _ _ _ _ _ _ g _ _ _ _ _ _ near (rw c.session-session.ensures at w.step-stepped.ensures) w.seen.ensures w.spanned-text.ensures w.named_by.ensures in
          near_played _ _ _ _ _ _ _ g _ near _ step _ w.add-booked.ensures _ _ _ (rw c.session-session.ensures at w.rows-is) w.reply-is w.booked-is
      | else-session-lt16 w ↦
          far_played _ _ _ _ _ _ _ g _ (rw c.session-session.ensures at w.if-session-lt16.false) _ (c.from-reply.ensures ∙ rw c.from.ensures) _ _ _ w.rows-is w.reply-is w.booked-is
    ])
    (rw c.letter.ensures at c.put_answer.ensures)

pub returns : goal.returns
returns c =
    elim c.loop-i-test.branch [
      | else-loop-i-test w ↦ turn_over _ _ _ _ _ _ _ c.loop-i.invariant w.loop-i-test.false c.put_booked.ensures
      | then-loop-i-test+in_default w ↦ turn_bad _ _ _ _ _ _ _ c.loop-i.invariant _ w.ask_at.ensures w.in_default.is c.put_booked.ensures
    ]
