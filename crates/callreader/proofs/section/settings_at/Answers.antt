use Rattle.callfile.specs.Sections.{settings_at}
use Rattle.cursor.proofs.Kit.{tests, some_none, some_is, eq_yes}
use Rattle.frame.proofs.Rows.{numbers_small}
use mathlib.Core.Path.{sym, ◌∙◌}
use Rattle.callreader.proofs.section.settings_at.Goals as goal

pub returns-in_err-count : goal.returns-in_err-count
unfolding settings_at
returns-in_err-count c = some_none _ _ _ _ _ c.number.ensures c.in_err-count.was c.from_residual.ensures

pub returns-then-count-ne6 : goal.returns-then-count-ne6
unfolding settings_at
returns-then-count-ne6 c = some_is _ _ _ _ _ _ c.number.ensures c.in_ok-count.was (search tests)

pub returns-in_err-figures : goal.returns-in_err-figures
unfolding settings_at
returns-in_err-figures c =
    some_is _ _ _ _ _ _ c.number.ensures c.in_ok-count.was
    (eq_yes _ _ _ _ _ c.if-count-ne6.false
    (some_none _ _ _ _ _ c.numbers_behind.ensures c.in_err-figures.was c.from_residual-in_err-figures.ensures))

pub returns-in_err-next : goal.returns-in_err-next
unfolding settings_at
returns-in_err-next c =
    some_is _ _ _ _ _ _ c.number.ensures c.in_ok-count.was
    (eq_yes _ _ _ _ _ c.if-count-ne6.false
    (some_is _ _ _ _ _ _ c.numbers_behind.ensures c.in_ok-figures.was
    (some_none _ _ _ _ _ c.mark.ensures c.in_err-next.was c.from_residual-in_err-next.ensures)))

pub settings_of-requires : goal.settings_of-requires
settings_of-requires c = numbers_small _ _ _ _ _ _ (sym c.numbers_behind.ensures ∙ c.in_ok-figures.was)

pub returns : goal.returns
unfolding settings_at
returns c =
    some_is _ _ _ _ _ _ c.number.ensures c.in_ok-count.was
    (eq_yes _ _ _ _ _ c.if-count-ne6.false
    (some_is _ _ _ _ _ _ c.numbers_behind.ensures c.in_ok-figures.was
    (some_is _ _ _ _ _ _ c.mark.ensures c.in_ok-next.was (rw c.settings_of.ensures))))
