use native.Mathlib.Omega.{arith}
use mathlib.Core.Path.{◌≡◌, ◌∙◌}
use Rattle.std.specs.Prelude.{Some, None}
use Rattle.flow.specs.Fit.{said, fit_of}
use Rattle.flow.proofs.Decided.{known}
use Rattle.rules.specs.Steps.{fit_by}
use Rattle.deciding.proofs.Decisions.{known_slot, offer_refused, answer_refused, misfit_refused, unknown_refused, decides, passed_on}
use Rattle.deciding.proofs.find.Goals as goal

pub returns-in_err-o : goal.returns-in_err-o
returns-in_err-o c =
    let e = c.in_err-o.ensures in
    passed_on c.from_residual.result c.in_err-o.field-0.0 _ c.from_residual.ensures.1 (offer_refused c.args.offer.now c.args.answer.now c.args.component c.in_err-o.field-0.0 e.0 e.1)

pub returns-in_err-a : goal.returns-in_err-a
returns-in_err-a c =
    let e = c.in_err-a.ensures in
    passed_on c.from_residual-in_err-a.result c.in_err-a.field-0.0 _ c.from_residual-in_err-a.ensures.1
    (answer_refused c.args.offer.now c.args.answer.now c.args.component c.in_ok-o.o c.in_ok-o.ensures c.in_err-a.field-0.0 e.0 e.1)

pub returns-in-Some : goal.returns-in-Some
returns-in-Some c =
    let f : fit_by (Some c.in-Some.place) ≡ fit_of (said c.in_ok-o.o) (said c.in_ok-a.a) = rw (← c.said_in.ensures, ← c.said_in-2.ensures) c.in-Some.ensures in
    misfit_refused c.args.offer.now c.args.answer.now c.args.component c.in_ok-o.o c.in_ok-o.ensures c.in_ok-a.a c.in_ok-a.ensures c.in-Some.place f

pub returns-then-component-from : goal.returns-then-component-from
returns-then-component-from c =
    let f : fit_by None ≡ fit_of (said c.in_ok-o.o) (said c.in_ok-a.a) = rw (← c.said_in.ensures, ← c.said_in-2.ensures) c.in_default.ensures in
    unknown_refused c.args.offer.now c.args.answer.now c.args.component c.in_ok-o.o c.in_ok-o.ensures c.in_ok-a.a c.in_ok-a.ensures f (rw (← c.from.ensures) c.if-component-from.true)

pub overflow_sub-j : goal.overflow_sub-j
overflow_sub-j c = omega (arith, known c.args.component c.from.result c.if-component-from.false)

pub slot_line-requires : goal.slot_line-requires
slot_line-requires c =
    known_slot c.args.offer.now c.args.component c.in_ok-o.o c.in_ok-o.ensures.0 (rw (← c.from.ensures) c.if-component-from.false)

pub returns : goal.returns
returns c =
    let f : fit_by None ≡ fit_of (said c.in_ok-o.o) (said c.in_ok-a.a) = rw (← c.said_in.ensures, ← c.said_in-2.ensures) c.in_default.ensures in
    c.slot_line.ensures
    ∙ decides c.args.offer.now c.args.answer.now c.args.component c.in_ok-o.o c.in_ok-o.ensures c.in_ok-a.a c.in_ok-a.ensures f (rw (← c.from.ensures) c.if-component-from.false)
