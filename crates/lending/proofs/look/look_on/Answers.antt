use Rattle.std.proofs.Common.{rules, tests, ◌∙◌, Bor}
use Rattle.std.proofs.lemmas.Iterator.{YieldsList-from_slice}
use Rattle.std.proofs.lemmas.Iterator.Consumers.{fold_from_yields_List}
use Rattle.book.specs.declared.Row.{Row}
use Rattle.book.specs.Look.{looked}
use Rattle.lending.proofs.Looking.{look_fold}
use Rattle.lending.proofs.look.look_on.Goals as goal

pub returns : goal.returns
returns c =
    fold_from_yields_List {v = λ (row : Bor Row). row.now} _ looked _ _ c.fold.ensures.ran (YieldsList-from_slice c.args.rows.now (cc)) (λ a x b q k. search (rules, tests))
    ∙ look_fold _ _
