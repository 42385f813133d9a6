-- The head's two sums.
use Rattle.std.proofs.Common.{rules}
use Rattle.ranging.proofs.Heads.{media_head}
use Rattle.ranging.proofs.media.head_bad.Goals as goal

pub returns : goal.returns
returns c =
    rw c.past_bounds.ensures
    (media_head c.of_16-head.result c.args.m.now.port c.args.m.now.kind c.args.m.now.transport c.args.m.now.direction (search rules) (search rules) (search rules) (search rules) c.of_16-head.ensures)
