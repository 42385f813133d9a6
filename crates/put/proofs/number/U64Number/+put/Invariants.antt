use Rattle.put.proofs.number.U64Number.+put.Given as goal

abbrev pub decreases-put : goal.decreases-put
decreases-put l = l.self
