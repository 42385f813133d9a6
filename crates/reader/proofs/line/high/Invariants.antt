use Rattle.std.proofs.Common.{◌≡◌, ℕ, ◌<◌, get_or, true}
use Rattle.reader.proofs.line.high.Given as goal

abbrev pub invariant-loop-b : goal.invariant-loop-b
invariant-loop-b l =
    (l.high ≡ true → (k : ℕ) → k < l.b-index → 13 < get_or l.s k 0) × (((k : ℕ) → k < l.b-index → 13 < get_or l.s k 0) → l.high ≡ true)
