use Rattle.player.proofs.Clipped.{cut_off}
use Rattle.player.proofs.call.spanned.Goals as goal

pub returns : goal.returns
returns c = search cut_off
