use Rattle.cursor.specs.Cursor.{next_at}
use Rattle.cursor.proofs.Kit.{some_none, some_is}
use Rattle.cursor.proofs.Cursor.next_field.Goals as goal

pub returns-in_default : goal.returns-in_default
unfolding next_at
returns-in_default c = search (some_none, some_is)

pub returns-in-Some-space : goal.returns-in-Some-space
unfolding next_at
returns-in-Some-space c = search (some_none, some_is)

pub returns-in-None : goal.returns-in-None
unfolding next_at
returns-in-None c = search (some_none, some_is)
