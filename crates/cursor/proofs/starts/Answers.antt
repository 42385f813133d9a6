use mathlib.Core.Path.{ap, ◌∙◌}
use Rattle.cursor.specs.Bytes.{starts_with}
use Rattle.cursor.proofs.Words.{starts_is}
use Rattle.cursor.proofs.starts.Goals as goal

pub returns : goal.returns
returns c = c.starts_with.ensures.value ∙ starts_is _ _ ∙ ap (starts_with c.args.w.now) c.rest.ensures
