-- Where an exchange stands: a number line with its head, below 8, then its offer and its answer, each after its length line.
use Rattle.std.specs.Prelude.{ℕ, List, length, Option, None, Some}
use Rattle.cursor.specs.Cursor.{on_some}
use Rattle.cursor.specs.Parts.{part}
use Rattle.frame.specs.Frame.{number_line, text_at}
use Rattle.flows.specs.declared.head.Head.{Head}
use Rattle.flows.specs.declared.parts.Exchange.{Exchange}
use Rattle.flows.specs.Head.{head_of}

-- an exchange's head, the bytes of its texts, and those after it
pub record Parts : Type 0 where
  pub head : Head
  pub offer : List ℕ
  pub answer : List ℕ
  pub rest : List ℕ

unfoldable pub first_of : List ℕ → Option Parts
first_of rest =
    on_some (number_line rest 0) None λ (n, p).
    on_some (head_of n) None λ head.
    on_some (text_at rest p.at) None λ offer.
    on_some (text_at rest offer.end) None λ answer.
    Some (record { head = head; offer = part rest offer.from offer.end; answer = part rest answer.from answer.end; rest = part rest answer.end (length rest) })

-- the parts that an exchange lends
abbrev pub lent : Option Exchange → Option Parts
lent None = None
lent (Some e) = Some (record { head = e.head; offer = e.offer.now; answer = e.answer.now; rest = e.rest.now })
