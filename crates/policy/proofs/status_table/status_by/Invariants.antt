use Rattle.policy.proofs.Searching.{Searching}
use Rattle.policy.proofs.status_table.status_by.Given as goal

abbrev pub invariant-loop-row : goal.invariant-loop-row
invariant-loop-row l = Searching l.c l.row-items l.row-index
