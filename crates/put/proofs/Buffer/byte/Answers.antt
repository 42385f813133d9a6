use borrow.Author.Rules.{rules}
use Rattle.put.proofs.Places.{byte_in, byte_out}
use Rattle.put.proofs.Buffer.byte.Goals as goal
use Rattle.put.proofs.Buffer.byte.Goals.{then-at-self, else-at-self}

pub returns : goal.returns
returns c =
    elim c.if-at-self.branch [
      | then-at-self w ↦ rw w.self-is (record { puts = byte_in _ _ _ _ (search rules) c.saturating_add-self.ensures w.if-at-self.true; lent = search rules })
      | else-at-self w ↦ rw w.self-is (record { puts = byte_out _ _ _ _ (search rules) c.saturating_add-self.ensures w.if-at-self.false; lent = search rules })
    ]
