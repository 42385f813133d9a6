-- Deciding line: "the part of the offer or the answer that decided its status, without its ending".
use Rattle.std.specs.Prelude.{ℕ, ◌-◌, ◌≡◌, ◌≢◌, List, cond, not, ◌||◌, get_or, take, drop, ltb, eqb}
use Rattle.sdp.specs.Direction.{inactive}
use Rattle.sdp.specs.Section.{no_media, no_spot, no_direction_line}
use Rattle.sdp.specs.Text.{read_text}
use Rattle.sdp.specs.Spots.{MediaLineOf, DirectionLineOf, NoDirectionLineOf}
use Rattle.sdp.specs.declared.Media.{Media}
use Rattle.sdp.specs.declared.Spot.{Spot}
use Rattle.sdp.specs.declared.Text.{Text}
use Rattle.flow.specs.declared.Decision.{Decision}
use Rattle.flow.specs.Fit.{said, fit_of}

-- the part of text 1, the offer, or 2, the answer, from start to before end
abbrev pub line_at : ℕ → ℕ → ℕ → Decision
line_at text start end = record { refusal = 0; place = 0; failed = 0; text = text; start = start; end = end }

-- "Refused: an empty part of the answer; the number, the place and which text failed (1 offer, 2 answer, else 0) can be asked for."
abbrev pub refused_by : ℕ → ℕ → ℕ → Decision
refused_by number place failed = record { refusal = number; place = place; failed = failed; text = 2; start = 0; end = 0 }

-- "when removed, the `m=` line with port 0, offer first; else the deciding direction line; where the answer decides without one, its `m=` line".
-- "The deciding line may be that session line" (02, 1), `a=sendrecv` too: where a section has none of its own, its spot is that line's
unfoldable pub deciding_spot : Media → Media → Spot → Spot → Decision
deciding_spot offer answer in_offer in_answer =
    cond (eqb offer.port 0) (line_at 1 in_offer.start in_offer.end)
    (cond (eqb answer.port 0) (line_at 2 in_answer.start in_answer.end)
    (cond (eqb offer.direction inactive) (line_at 1 in_offer.from in_offer.to)
    (cond (no_direction_line in_answer) (line_at 2 in_answer.start in_answer.end)
    (line_at 2 in_answer.from in_answer.to))))

-- of the component at slot j
abbrev pub deciding_at : Text → Text → ℕ → Decision
deciding_at offer answer j =
    deciding_spot (get_or offer.media j no_media) (get_or answer.media j no_media) (get_or offer.spots j no_spot) (get_or answer.spots j no_spot)

-- "Order: offer text, answer text, 15, 10." 10: "component unknown (deciding line only)"
unfoldable pub decision_of : Text → Text → ℕ → Decision
decision_of offer answer component =
    cond (not (eqb offer.refusal 0)) (refused_by offer.refusal offer.place 1)
    (cond (not (eqb answer.refusal 0)) (refused_by answer.refusal answer.place 2)
    (cond (not (eqb (fit_of (said offer) (said answer)).refusal 0)) (refused_by 15 (fit_of (said offer) (said answer)).place 0)
    (cond (eqb component 0 || ltb offer.count component) (refused_by 10 0 0)
    (deciding_at offer answer (component - 1)))))

unfoldable pub decision : List ℕ → List ℕ → ℕ → Decision
decision offer answer component = decision_of (read_text offer) (read_text answer) component

-- the bytes of the deciding line
unfoldable pub part_of : List ℕ → List ℕ → Decision → List ℕ
part_of offer answer d =
    cond (eqb d.text 1) (take (d.end - d.start) (drop d.start offer)) (take (d.end - d.start) (drop d.start answer))

unfoldable pub deciding_line : List ℕ → List ℕ → ℕ → List ℕ
deciding_line offer answer component = part_of offer answer (decision offer answer component)

-- What the line l handed back is, of a component at slot j that the offer describes as o and the answer as a.
pub data DecidedBy (offer answer : List ℕ) (j : ℕ) (o a : Media) (d : Decision) (l : List ℕ) : Type 0 where
  -- "when removed, the `m=` line with port 0, offer first"
  offer_removes : o.port ≡ 0 → d.text ≡ 1 → MediaLineOf offer j o d.start d.end l → DecidedBy offer answer j o a d l
  answer_removes : o.port ≢ 0 → a.port ≡ 0 → d.text ≡ 2 → MediaLineOf answer j a d.start d.end l → DecidedBy offer answer j o a d l
  -- "else the deciding direction line": "the offer's if that is inactive, otherwise the answer's"; the media section's own, or the session
  -- section's that stands for it (02, 1)
  offer_directs : o.port ≢ 0 → a.port ≢ 0 → o.direction ≡ inactive → d.text ≡ 1 → DirectionLineOf offer j o d.start d.end l
      → DecidedBy offer answer j o a d l
  answer_directs : o.port ≢ 0 → a.port ≢ 0 → o.direction ≢ inactive → d.text ≡ 2 → DirectionLineOf answer j a d.start d.end l
      → DecidedBy offer answer j o a d l
  -- "where the answer decides without one, its `m=` line"
  answer_silent : o.port ≢ 0 → a.port ≢ 0 → o.direction ≢ inactive → NoDirectionLineOf answer j a → d.text ≡ 2
      → MediaLineOf answer j a d.start d.end l → DecidedBy offer answer j o a d l
