use Rattle.cursor.specs.Cursor.{figure_at}
use Rattle.cursor.proofs.Kit.{tests, some_none, some_is}
use Rattle.cursor.proofs.Cursor.figure.Goals as goal
use Rattle.cursor.proofs.Cursor.figure.Goals.{then-most-n-via-then-most-n, then-most-n-via-else-most-n+then-max-v}

pub returns-in_err-v : goal.returns-in_err-v
unfolding figure_at
returns-in_err-v c = some_none _ _ _ _ _ c.digits.ensures c.in_err-v.was c.from_residual.ensures

pub returns-then-most-n : goal.returns-then-most-n
unfolding figure_at
returns-then-most-n c =
    some_is _ _ _ _ _ _ c.digits.ensures c.in_ok-v.was (elim c.then-most-n.branch [
      | then-most-n-via-then-most-n w ↦ search tests
      | then-most-n-via-else-most-n+then-max-v w ↦ search tests
    ])

pub returns : goal.returns
unfolding figure_at
returns c = some_is _ _ _ _ _ _ c.digits.ensures c.in_ok-v.was (search tests)
