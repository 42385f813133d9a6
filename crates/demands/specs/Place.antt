-- The column "Place" of the table: ""Place" is a line counted from 1, else 0."
use Rattle.std.specs.Prelude.{ℕ, ◌+◌, ◌≤◌, ◌≡◌, ◌⊎◌}
use Rattle.sdp.specs.Line.{lines_of}
use Rattle.sdp.specs.Text.{read_text}
use Rattle.flow.specs.declared.Descriptions.{Descriptions}
use Rattle.flow.specs.Fit.{said, LowestMisfit}
use Rattle.book.specs.declared.Reply.{Reply}
use Rattle.book.specs.Model.{Call, offers, answers, cancels, closes, asks, states}

-- the lines of the text that a call brings; none where it brings no text
abbrev pub text_lines : Call → ℕ
text_lines (offers session origin text) = lines_of text
text_lines (answers session text) = lines_of text
text_lines (cancels session) = 0
text_lines (closes session) = 0
text_lines (asks session bearer) = 0
text_lines (states session room) = 0

-- the place of 15: "answer's count differs (place 0)", or "lowest component, from 1"
abbrev pub MisfitPlace : Descriptions → Descriptions → ℕ → Type 0
MisfitPlace offer answer place = ((offer.count ≡ answer.count → ⊥) × (place ≡ 0)) ⊎ ((j : ℕ) × (place ≡ j + 1) × LowestMisfit offer answer j)

-- of a call, at a row with this open offer; none but an answer is refused with 15
abbrev pub CallMisfits : Call → Descriptions → ℕ → Type 0
CallMisfits (offers session origin text) offer place = ⊥
CallMisfits (answers session text) offer place = MisfitPlace offer (said (read_text text)) place
CallMisfits (cancels session) offer place = ⊥
CallMisfits (closes session) offer place = ⊥
CallMisfits (asks session bearer) offer place = ⊥
CallMisfits (states session room) offer place = ⊥

-- the place of an answer to a call whose text has so many lines, and of which this is the place of 15
pub record PlaceKnown (lines : ℕ) (Misfits : ℕ → Type 0) (reply : Reply) : Type 0 where
  -- 2 to 9: ""Place" is a line counted from 1"
  pub line : 2 ≤ reply.refusal → reply.refusal ≤ 9 → (1 ≤ reply.place) × (reply.place ≤ lines)
  -- 15: "answer's count differs (place 0), or .. lowest component, from 1"
  pub component : reply.refusal ≡ 15 → Misfits reply.place
  -- "else 0"
  pub none : ((2 ≤ reply.refusal) × (reply.refusal ≤ 9) → ⊥) → (reply.refusal ≡ 15 → ⊥) → reply.place ≡ 0
