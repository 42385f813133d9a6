-- All definitions by which a statement is computed from the bytes of two texts, under one name. Assumes nothing.
use Rattle.flow.proofs.Computing as Flow
use Rattle.put.specs.Number as Number
use Rattle.statement.specs.Statement as Statement

unfoldable pub computing : Unit {0}
unfolding Flow.computing Number.spell Statement.line Statement.kind_name Statement.component_line Statement.count_line Statement.component_lines Statement.statement_of Statement.written Statement.after
computing = tt
