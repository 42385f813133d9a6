use Rattle.cursor.proofs.Kit.{some_none, some_is}
use mathlib.Core.Path.{refl}
use Rattle.callfile.specs.Ask.{figure_count, ask_with, behind}
use Rattle.callreader.proofs.Calls.{unknown}
use Rattle.callreader.proofs.call.behind.Goals as goal

pub returns-in_err-session-in-79 : goal.returns-in_err-session-in-79
unfolding behind figure_count
returns-in_err-session-in-79 c = rw c.in-79.is (some_none _ _ _ _ _ c.numbers_behind.ensures c.in_err-session-in-79.was c.from_residual.ensures)

pub returns-in_ok-session-in-79 : goal.returns-in_ok-session-in-79
unfolding behind figure_count ask_with
returns-in_ok-session-in-79 c = rw c.in-79.is (some_is _ _ _ _ _ _ c.numbers_behind.ensures c.in_ok-session-in-79.was refl)

pub returns-in_err-session-in-65 : goal.returns-in_err-session-in-65
unfolding behind figure_count
returns-in_err-session-in-65 c = rw c.in-65.is (some_none _ _ _ _ _ c.numbers_behind-in-65.ensures c.in_err-session-in-65.was c.from_residual-in_err-session-in-65.ensures)

pub returns-in_ok-session-in-65 : goal.returns-in_ok-session-in-65
unfolding behind figure_count ask_with
returns-in_ok-session-in-65 c = rw c.in-65.is (some_is _ _ _ _ _ _ c.numbers_behind-in-65.ensures c.in_ok-session-in-65.was refl)

pub returns-in_err-session-in-67 : goal.returns-in_err-session-in-67
unfolding behind figure_count
returns-in_err-session-in-67 c = rw c.in-67.is (some_none _ _ _ _ _ c.numbers_behind-in-67.ensures c.in_err-session-in-67.was c.from_residual-in_err-session-in-67.ensures)

pub returns-in_ok-session-in-67 : goal.returns-in_ok-session-in-67
unfolding behind figure_count ask_with
returns-in_ok-session-in-67 c = rw c.in-67.is (some_is _ _ _ _ _ _ c.numbers_behind-in-67.ensures c.in_ok-session-in-67.was refl)

pub returns-in_err-session-in-88 : goal.returns-in_err-session-in-88
unfolding behind figure_count
returns-in_err-session-in-88 c = rw c.in-88.is (some_none _ _ _ _ _ c.numbers_behind-in-88.ensures c.in_err-session-in-88.was c.from_residual-in_err-session-in-88.ensures)

pub returns-in_ok-session-in-88 : goal.returns-in_ok-session-in-88
unfolding behind figure_count ask_with
returns-in_ok-session-in-88 c = rw c.in-88.is (some_is _ _ _ _ _ _ c.numbers_behind-in-88.ensures c.in_ok-session-in-88.was refl)

pub returns-in_err-session-in-66 : goal.returns-in_err-session-in-66
unfolding behind figure_count
returns-in_err-session-in-66 c = rw c.in-66.is (some_none _ _ _ _ _ c.numbers_behind-in-66.ensures c.in_err-session-in-66.was c.from_residual-in_err-session-in-66.ensures)

pub returns-in_ok-session-in-66 : goal.returns-in_ok-session-in-66
unfolding behind figure_count ask_with
returns-in_ok-session-in-66 c = rw c.in-66.is (some_is _ _ _ _ _ _ c.numbers_behind-in-66.ensures c.in_ok-session-in-66.was refl)

pub returns-in_default : goal.returns-in_default
returns-in_default c = search unknown depth 2
