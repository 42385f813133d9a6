use mathlib.Core.Bool.{true}
use mathlib.Core.Path.{refl, ◌∙◌}
use Rattle.book.proofs.NotBarred.{not_barred}
use Rattle.calls.proofs.Answering.{books}
use Rattle.calls.proofs.row.Named.answered.Goals as goal

pub returns : goal.returns
returns c =
    let row = c.args.self.now.row in
    let seen = c.args.self.now.seen in
    let bar = c.in_ok-bar.ensures.ok in
    let offer = c.in_ok-offer.ensures.ok in
    let said = c.in_ok-said.ensures.ok in
    let fit = rw offer.1 at c.fit-fit.ensures in
    let held = rw offer.1 at c.derive.ensures.value in
    c.booked.ensures (not_barred seen row true _ refl bar) (c.derive.ensures.in_range _ said.0 said.1)
    ∙ books row seen c.args.settings _ _ _ said.1 held said.0 bar offer.0 (rw (← fit) c.if-fit-ne0.false)
