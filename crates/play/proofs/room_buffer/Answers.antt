use Rattle.play.proofs.Long.{long}
use Rattle.play.proofs.room_buffer.Goals as goal

pub returns : goal.returns
returns c = long 1572992
