use mathlib.Core.Path.{◌≡◌}
use mathlib.Core.Bool.{true, false}
use lib.Dec.{eqb}
use borrow.Author.Rules.{rules}
use Rattle.flow.specs.Described.{has_rtcp}
use Rattle.flow.specs.Rates.{way_to}
use Rattle.flow.specs.Session.{status_number}
use Rattle.flow.proofs.Tests.{bit_is}
use Rattle.policy.proofs.Rates.{not_removed, live_rtcp}
use Rattle.policy.proofs.rate.way_to.Goals as goal
use Rattle.policy.proofs.rate.way_to.Goals.{then-has_rtcp, else-has_rtcp}

pub returns-in-Removed : goal.returns-in-Removed
unfolding way_to
returns-in-Removed c = rw c.in-Removed.is (search rules)

pub returns-after-has_rtcp : goal.returns-after-has_rtcp
unfolding way_to
returns-after-has_rtcp c =
    let live : eqb (status_number c.args.status) 4 ≡ false = not_removed c.args.status c.in_default.not-Removed in
    let rtcp : has_rtcp (status_number c.args.status) c.args.transport ≡ eqb c.args.transport 1 = live_rtcp (status_number c.args.status) c.args.transport live in
    rw (live, c.media_rate.ensures, c.from.ensures, c.from-in_default.ensures, bit_is)
    (elim c.if-has_rtcp.branch [
      | then-has_rtcp w ↦ let e : eqb c.args.transport 1 ≡ true = cc in rw (w.result-is, w.rtcp_rate.ensures, e)
      | else-has_rtcp w ↦ let e : eqb c.args.transport 1 ≡ false = cc in rw (w.result-is, e)
    ])
