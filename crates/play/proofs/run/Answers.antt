use Rattle.std.proofs.Common.{sym}
use Rattle.play.proofs.Played.{played_first}
use Rattle.play.proofs.run.Goals as goal

pub returns : goal.returns
returns g c =
    played_first (g.W.Write.contents c.args.to.now) (g.W.Write.contents c.play_file.new.to) c.play_file.result (g.R.Read.remaining c.args.from.now) 49153
    _ (rw (sym c.file_buffer-file.ensures) at c.in_ok-n.ensures.bytes) c.play_file.ensures
