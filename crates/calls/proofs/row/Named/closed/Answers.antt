use native.Mathlib.Omega.{arith}
use mathlib.Core.Bool.{true}
use mathlib.Core.Path.{refl}
use borrow.Author.Tests.{ne_eqb}
use Rattle.book.specs.Calls.{close_step}
use Rattle.book.proofs.NotBarred.{not_barred}
use Rattle.calls.proofs.Books.{booked_in}
use Rattle.calls.proofs.row.Named.closed.Goals as goal

pub returns : goal.returns
unfolding close_step
returns c =
    let row = c.args.self.now.row in
    let bar = c.in_ok-bar.ensures.ok in
    let held = c.in_ok-held.ensures.ok in
    let old = booked_in _ _ (rw held.1 at c.rates_of.ensures) (not_barred c.args.self.now.seen row true _ refl bar) in
    rw (
      c.fresh.ensures,
      bar,
      c.in_ok-nothing_open.ensures.ok,
      ne_eqb row.held.completed 0 held.0,
      c.reply.ensures (rw c.no_rates.ensures (omega arith, omega arith)) old.1,
      c.no_rates.ensures,
      old.0,
    )
