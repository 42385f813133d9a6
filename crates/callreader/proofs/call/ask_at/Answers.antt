use Rattle.cursor.proofs.Kit.{tests, le_yes, some_none, some_is}
use Rattle.callfile.specs.Ask.{ask_at}
use Rattle.callreader.proofs.Calls.{letter_there}
use Rattle.callreader.proofs.call.ask_at.Goals as goal

pub returns-in_err-letter : goal.returns-in_err-letter
unfolding ask_at
returns-in_err-letter c = le_yes _ _ _ _ _ c.in_err-letter.ensures.lookup.3 c.from_residual.ensures

pub returns-in_err-ask : goal.returns-in_err-ask
returns-in_err-ask c =
    let there = c.in_ok-letter.ensures.lookup.3 in
    letter_there _ _ _ _ _ there.0 (there.1 0) (some_none _ _ _ _ _ c.behind.ensures c.in_err-ask.was c.from_residual-in_err-ask.ensures)

pub returns-in_err-next : goal.returns-in_err-next
returns-in_err-next c =
    let there = c.in_ok-letter.ensures.lookup.3 in
    letter_there _ _ _ _ _ there.0 (there.1 0)
    (some_is _ _ _ _ _ _ c.behind.ensures c.in_ok-ask.was
    (some_none _ _ _ _ _ c.mark.ensures c.in_err-next.was c.from_residual-in_err-next.ensures))

pub returns-then-lacks_text : goal.returns-then-lacks_text
returns-then-lacks_text c =
    let there = c.in_ok-letter.ensures.lookup.3 in
    letter_there _ _ _ _ _ there.0 (there.1 0)
    (some_is _ _ _ _ _ _ c.behind.ensures c.in_ok-ask.was (some_is _ _ _ _ _ _ c.mark.ensures c.in_ok-next.was (search tests)))

pub returns : goal.returns
returns c =
    let there = c.in_ok-letter.ensures.lookup.3 in
    letter_there _ _ _ _ _ there.0 (there.1 0)
    (some_is _ _ _ _ _ _ c.behind.ensures c.in_ok-ask.was (some_is _ _ _ _ _ _ c.mark.ensures c.in_ok-next.was (search tests)))
