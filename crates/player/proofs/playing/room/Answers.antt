use mathlib.Core.Path.{refl}
use Rattle.player.proofs.Room.{room_past, room_near}
use Rattle.player.proofs.playing.room.Goals as goal

pub returns-then-calls-gt4294967295 : goal.returns-then-calls-gt4294967295
returns-then-calls-gt4294967295 c = room_past _ _ refl c.if-calls-gt4294967295.true

pub returns : goal.returns
returns c = room_near _ _ refl c.if-calls-gt4294967295.false
