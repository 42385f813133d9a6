use mathlib.Core.Path.{◌≡◌}
use Rattle.std.specs.Prelude.{Some, None}
use Rattle.std.specs.Option.{option_zip}
use Rattle.policy.proofs.Rates.{rs_of, rr_of, asked_of, both_given, none_asked, rate_asked}
use Rattle.policy.proofs.rate.rtcp_rate.Goals as goal

pub returns-in-Some : goal.returns-in-Some
returns-in-Some c = rw (c.from.ensures, c.from-in-Some.ensures) (both_given c.args.answer.now c.args.text.now c.args.default c.in-Some.rs c.in-Some.rr cc)

pub returns-in_default-figure : goal.returns-in_default-figure
returns-in_default-figure c =
    let e : option_zip (rs_of c.args.answer.now) (rr_of c.args.answer.now) ≡ None = cc in
    let f : asked_of c.args.text.now ≡ None = cc in
    rw c.from-in_default-figure.ensures (none_asked c.args.answer.now c.args.text.now c.args.default e f)

pub returns : goal.returns
returns c =
    let e : option_zip (rs_of c.args.answer.now) (rr_of c.args.answer.now) ≡ None = cc in
    let f : asked_of c.args.text.now ≡ Some c.in-Some-figure.requested = cc in
    rw (c.max.ensures, c.twentieth_of.ensures, c.from-2.ensures, c.unwrap_or-asked.ensures, c.or.ensures, c.figure-rs.ensures, c.figure-rr.ensures) (rate_asked c.args.answer.now c.args.text.now c.args.default c.in-Some-figure.requested e f)
