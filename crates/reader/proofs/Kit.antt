-- The answers that the functions go by: for each case of each answer the law that takes one step of a definition. Assumes nothing.
use Rattle.cursor.proofs.Kit.{answers}

pub ruleset kit = (answers)
