use mathlib.Core.List.{◌++◌}
use Rattle.put.specs.Put.{Takes}
use Rattle.statement.specs.Statement.{count_line, component_lines}
use Rattle.stating.proofs.lines.put_lines.Given as goal

abbrev pub invariant-loop-j : goal.invariant-loop-j
invariant-loop-j l = Takes l.fn.out (count_line l.count ++ component_lines l.held l.j) l.out
