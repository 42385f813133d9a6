use mathlib.Core.List.{◌∷◌}
use lib.ListN.{take}
use Rattle.std.specs.List.{flat_map}
use Rattle.put.specs.Put.{Takes}
use Rattle.put.proofs.Buffer.numbers.Given as goal

abbrev pub invariant-loop-n : goal.invariant-loop-n
invariant-loop-n g l = Takes l.initial.self (flat_map (λ n. 32 ∷ g.N.Number.text n) (take l.n-index l.numbers)) l.self
