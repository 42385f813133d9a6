use Rattle.cursor.proofs.Words.{word_fits, word_met, word_not}
use Rattle.cursor.proofs.Cursor.word.Goals as goal

pub overflow_add-result : goal.overflow_add-result
overflow_add-result c = search word_fits

pub returns-then-starts : goal.returns-then-starts
returns-then-starts c = search word_met

pub returns-else-starts : goal.returns-else-starts
returns-else-starts c = search word_not
