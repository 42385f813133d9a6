-- The two evenings' answers and rows, what is left of each, and what each session's past is.
use Rattle.std.specs.Prelude.{ℕ, List, [], ◌∷◌, pos, negsuc}
use Rattle.std.proofs.Math.Option.{none, some}
use Rattle.cursor.specs.Bytes.{bytes}
use Rattle.book.specs.declared.Reply.{Reply}
use Rattle.book.specs.declared.Row.{Row}
use Rattle.book.specs.CasesReplied.{only, changing, granting, long}
use Rattle.book.specs.CasesRows.{first_open, first_held, gone_held, slow_held, network_held, network_slow_held, held, with_offer, opened}
use Rattle.book.specs.Demand3.{Exchange, Past}
use Rattle.book.specs.Evening.{evening, night, first_offer, first_answer, slow, gone}
use Rattle.book.specs.Model.{Call, offers, answers, closes, asks, states, Out}
use Rattle.book.specs.Serial.{Entry, paired}

-- an answer without bytes, and the statement of First
abbrev pub mute : Reply → Out
mute reply = record { reply = reply; bytes = [] }

abbrev pub stated : Out
stated = record { reply = long 0 48; bytes = bytes "components 1\n1 audio 2 2 100000 64000 5000 3200\n" }

-- what each call of the evening answers, and the rows in the end
abbrev pub evening_outs : List Out
evening_outs =
    mute (only 0 0)
    ∷ mute (only 0 0)
    ∷ mute (only 15 0)
    ∷ mute (only 0 0)
    ∷ mute (changing (pos 105000) (pos 67200))
    ∷ mute (only 0 0)
    ∷ mute (only 0 0)
    -- offered by the network
    ∷ mute (changing (pos 67200) (pos 105000))
    ∷ mute (only 16 0)
    ∷ mute (granting 0 2 105000 67200)
    ∷ mute (only 0 0)
    ∷ mute (changing (pos 21000) (pos 67200))
    ∷ stated
    ∷ mute (only 11 0)
    ∷ mute (changing (negsuc 104999) (negsuc 67199))
    ∷ mute (changing (negsuc 67199) (negsuc 104999))
    ∷ mute (only 0 0)
    ∷ mute (only 11 0)
    ∷ mute (only 10 0)
    ∷ []

abbrev pub evening_rows : List Row
evening_rows = held gone_held ∷ opened ∷ held slow_held ∷ []

abbrev pub evening_log : List Entry
evening_log = paired evening evening_outs

-- the answers of the calls left, in the order of play
abbrev pub serially_outs : List Out
serially_outs =
    mute (only 0 0)
    ∷ mute (changing (pos 105000) (pos 67200))
    ∷ mute (only 0 0)
    ∷ mute (changing (pos 67200) (pos 105000))
    ∷ mute (granting 0 2 105000 67200)
    ∷ mute (only 0 0)
    ∷ mute (changing (pos 21000) (pos 67200))
    ∷ stated
    ∷ mute (only 0 0)
    ∷ mute (changing (negsuc 104999) (negsuc 67199))
    ∷ mute (changing (negsuc 67199) (negsuc 104999))
    ∷ []

-- what remains, in the order of coming
abbrev pub remaining_calls : List Call
remaining_calls =
    offers 0 0 first_offer
    ∷ offers 1 1 first_offer
    ∷ answers 0 first_answer
    ∷ offers 2 0 first_offer
    ∷ answers 1 first_answer
    ∷ asks 0 (record { set = 1; class = 2; up = 105000; down = 67200 })
    ∷ offers 0 1 gone
    ∷ answers 2 slow
    ∷ states 0 100
    ∷ answers 0 gone
    ∷ closes 1
    ∷ []

abbrev pub other_calls : List Call
other_calls =
    answers 0 first_answer
    ∷ answers 1 first_answer
    ∷ asks 0 (record { set = 1; class = 2; up = 105000; down = 67200 })
    ∷ answers 2 slow
    ∷ states 0 100
    ∷ answers 0 gone
    ∷ closes 1
    ∷ []

-- the completed exchanges of each session since its last close, and its open offer
abbrev pub exchange : ℕ → List ℕ → List ℕ → Exchange
exchange origin offer answer = record { offered = record { origin = origin; text = offer }; answer = answer }

abbrev pub pasts : List Past
pasts =
    record { exchanges = exchange 0 first_offer first_answer ∷ exchange 1 gone gone ∷ []; offered = none }
    ∷ record { exchanges = []; offered = some (record { origin = 0; text = first_offer }) }
    ∷ record { exchanges = exchange 0 first_offer slow ∷ []; offered = none }
    ∷ []

-- the other evening: its answers, its rows in the end, the answers of the calls left, and the pasts
abbrev pub night_outs : List Out
night_outs =
    mute (only 0 0)
    ∷ mute (changing (pos 67200) (pos 105000))
    ∷ mute (only 0 0)
    ∷ mute (only 0 0)
    ∷ mute (changing (pos 105000) (pos 67200))
    ∷ mute (only 0 0)
    ∷ mute (only 0 0)
    ∷ mute (changing (negsuc 104999) (negsuc 67199))
    ∷ mute (only 0 0)
    ∷ mute (changing (pos 67200) (pos 21000))
    ∷ mute (changing (pos 105000) (pos 67200))
    ∷ mute (only 0 0)
    ∷ []

abbrev pub night_rows : List Row
night_rows = with_offer network_held (first_open 1) ∷ held network_slow_held ∷ held first_held ∷ []

abbrev pub night_log : List Entry
night_log = paired night night_outs

abbrev pub night_serially_outs : List Out
night_serially_outs =
    mute (only 0 0)
    ∷ mute (changing (pos 67200) (pos 105000))
    ∷ mute (only 0 0)
    ∷ mute (changing (pos 105000) (pos 67200))
    ∷ mute (changing (negsuc 104999) (negsuc 67199))
    ∷ mute (only 0 0)
    ∷ mute (changing (pos 67200) (pos 21000))
    ∷ mute (only 0 0)
    ∷ mute (changing (pos 105000) (pos 67200))
    ∷ []

abbrev pub night_pasts : List Past
night_pasts =
    record { exchanges = exchange 1 first_offer first_answer ∷ []; offered = some (record { origin = 1; text = first_offer }) }
    ∷ record { exchanges = exchange 1 first_offer slow ∷ []; offered = none }
    ∷ record { exchanges = exchange 0 first_offer first_answer ∷ []; offered = none }
    ∷ []
