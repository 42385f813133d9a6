use Rattle.book.specs.Calls.{answer_books}
use Rattle.calls.proofs.Books.{booked_in}
use Rattle.calls.proofs.row.Named.booked.Goals as goal

pub returns-then-is_above : goal.returns-then-is_above
unfolding answer_books
returns-then-is_above c = λ h k.
    let old = booked_in _ _ c.rates_of-old.ensures h in
    let new = booked_in _ _ c.rates_of-new.ensures k in
    rw (c.into.ensures, ← old.0, ← new.0, ← c.is_above.ensures, c.if-is_above.true)

pub returns : goal.returns
unfolding answer_books
returns c = λ h k.
    let old = booked_in _ _ c.rates_of-old.ensures h in
    let new = booked_in _ _ c.rates_of-new.ensures k in
    rw (c.no_offer.ensures, c.reply.ensures new.1 old.1, ← old.0, ← new.0, ← c.is_above.ensures, c.if-is_above.false)
