use Rattle.player.proofs.Whole.{all_bad, all_good_lem}
use Rattle.player.proofs.playing.put_output.Goals as goal

pub returns-in-Some : goal.returns-in-Some
returns-in-Some c = all_good_lem _ _ _ c.in-Some.is c.put_calls.ensures c.put_answers.ensures

pub returns-in-None : goal.returns-in-None
returns-in-None c = all_bad _ _ c.in-None.is c.word.ensures
