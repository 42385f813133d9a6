-- Two evenings of calls: three sessions whose offers and answers cross.
use Rattle.std.specs.Prelude.{ℕ, List, [], ◌∷◌}
use Rattle.cursor.specs.Bytes.{bytes}
use Rattle.flow.specs.declared.Settings.{Settings}
use Rattle.book.specs.Cases.{with_pool, offer_text, answer_text}
use Rattle.book.specs.Model.{Call, offers, answers, cancels, closes, asks, states}

-- a pool in which First fits twice, but not three times
abbrev pub pooled : Settings
pooled = with_pool 250000 1000000

-- First's offer and answer; the answer with a lower rate, with a line too many; and both without their sound
abbrev pub first_offer : List ℕ
first_offer = offer_text (bytes "b=AS:64\n")

abbrev pub first_answer : List ℕ
first_answer = answer_text []

abbrev pub slow : List ℕ
slow = answer_text (bytes "b=AS:20\n")

abbrev pub two : List ℕ
two = answer_text (bytes "m=video 50002 RTP/AVP 31\n")

abbrev pub gone : List ℕ
gone = bytes "v=0\nm=audio 0 RTP/AVP 0\n"

abbrev pub evening : List Call
evening =
    offers 0 0 first_offer
    ∷ offers 1 1 first_offer
    -- 15, and the offer is still open
    ∷ answers 1 two
    ∷ offers 2 0 first_answer
    ∷ answers 0 first_answer
    ∷ cancels 2
    ∷ offers 2 0 first_offer
    ∷ answers 1 first_answer
    -- 16, and the offer is still open
    ∷ answers 2 first_answer
    ∷ asks 0 (record { set = 1; class = 2; up = 105000; down = 67200 })
    -- a removal, offered by the network
    ∷ offers 0 1 gone
    ∷ answers 2 slow
    ∷ states 0 100
    -- 11
    ∷ offers 0 0 first_offer
    ∷ answers 0 gone
    ∷ closes 1
    -- still open in the end
    ∷ offers 1 0 first_offer
    -- 11, and 10
    ∷ closes 1
    ∷ closes 3
    ∷ []

-- what is left of it, in the order of play
abbrev pub serially : List Call
serially =
    offers 0 0 first_offer
    ∷ answers 0 first_answer
    ∷ offers 1 1 first_offer
    ∷ answers 1 first_answer
    ∷ asks 0 (record { set = 1; class = 2; up = 105000; down = 67200 })
    ∷ offers 2 0 first_offer
    ∷ answers 2 slow
    ∷ states 0 100
    ∷ offers 0 1 gone
    ∷ answers 0 gone
    ∷ closes 1
    ∷ []

-- Another: a cancel after a completed exchange, a close while another session's offer waits, an exchange after a close, and an open offer of the network
-- in the end.
abbrev pub night : List Call
night =
    offers 0 1 first_offer
    ∷ answers 0 first_answer
    ∷ offers 0 0 first_offer
    ∷ offers 1 0 first_offer
    ∷ answers 1 first_answer
    ∷ cancels 0
    ∷ offers 2 0 first_offer
    ∷ closes 1
    ∷ offers 1 1 first_offer
    ∷ answers 1 slow
    ∷ answers 2 first_answer
    ∷ offers 0 1 first_offer
    ∷ []

abbrev pub night_serially : List Call
night_serially =
    offers 0 1 first_offer
    ∷ answers 0 first_answer
    ∷ offers 1 0 first_offer
    ∷ answers 1 first_answer
    ∷ closes 1
    ∷ offers 1 1 first_offer
    ∷ answers 1 slow
    ∷ offers 2 0 first_offer
    ∷ answers 2 first_answer
    ∷ []
