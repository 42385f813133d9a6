-- "The first fault in the stated order deciding": calls with two faults or more, and the number and the place that each is refused with.
use Rattle.std.specs.Prelude.{ℕ, List, [], ◌∷◌, ◌++◌, map, replicate}
use Rattle.cursor.specs.Bytes.{bytes}
use Rattle.sdp.specs.Section.{no_media}
use Rattle.flow.specs.declared.Settings.{Settings}
use Rattle.book.specs.declared.Row.{Row}
use Rattle.book.specs.Cases.{with_pool, usual, answer_text}
use Rattle.book.specs.CasesReplied.{faulty, bare, video}
use Rattle.book.specs.CasesRows.{media, offering, nothing_held, first_held, gone_held, held, with_offer, opened, opened_again, unsound}
use Rattle.book.specs.Evening.{first_offer, first_answer, two}
use Rattle.book.specs.Model.{Call, offers, answers, cancels, closes, asks, states, Out, log}

-- calls on a book, and the number and the place of each, 0 and 0 where it is accepted
pub record Trial : Type 0 where
  pub rows : List Row
  pub pool : Settings
  pub calls : List Call
  pub faults : List (ℕ × ℕ)

abbrev pub tried : Trial → List (ℕ × ℕ)
tried t = map (λ (out : Out). (out.reply.refusal, out.reply.place)) (log t.pool t.rows t.calls)

-- a book of one row; one with an unsound row beside it
abbrev pub alone : Row → List Row
alone row = row ∷ []

abbrev pub beside_unsound : Row → List Row
beside_unsound row = row ∷ unsound ∷ []

-- an open offer of two lines, the second with port 0
abbrev pub opened_two : Row
opened_two =
    with_offer nothing_held.held (offering 1 0 2 (media 1 1 1 40000 1 3221225985 0 0 0 0 0 0 ∷ media 2 2 1 0 1 3221225985 0 0 0 0 0 0 ∷ replicate 6 no_media))

-- texts: with a fault in the third line, and with two lines, the second with a port
abbrev pub faulty_third : List ℕ
faulty_third = bytes "v=0\nc=IN IP4 192.0.2.9\nm=audio x RTP/AVP 0\n"

abbrev pub second : List ℕ
second = answer_text (bytes "m=video 9 udp 0\n")

-- a bearer's set, class and rate up
abbrev pub asked : ℕ → ℕ → ℕ → Call
asked set class up = asks 0 (record { set = set; class = class; up = up; down = 0 })

abbrev pub scant : Settings
scant = with_pool 1000 1000

abbrev pub offer_trials : List Trial
offer_trials =
    -- "Offer: 10, 19, 11, text, 14."
    record {
      rows = beside_unsound opened;
      pool = usual;
      calls = offers 0 2 faulty ∷ offers 2 0 faulty ∷ offers 0 0 faulty ∷ offers 0 1 faulty ∷ offers 1 0 faulty ∷ [];
      faults = (10, 0) ∷ (10, 0) ∷ (19, 0) ∷ (19, 0) ∷ (19, 0) ∷ [];
    }
    ∷ record { rows = alone opened; pool = usual; calls = offers 0 2 faulty ∷ offers 0 0 faulty ∷ []; faults = (10, 0) ∷ (11, 0) ∷ [] }
    ∷ record {
      rows = alone (held first_held);
      pool = usual;
      calls = offers 0 0 faulty ∷ offers 0 0 faulty_third ∷ offers 0 0 bare ∷ offers 0 1 first_offer ∷ offers 0 0 bare ∷ [];
      faults = (2, 1) ∷ (3, 3) ∷ (14, 0) ∷ (0, 0) ∷ (11, 0) ∷ [];
    }
    -- 14 counts removed lines, and "after a close there is no last exchange"
    ∷ record {
      rows = alone (held gone_held);
      pool = usual;
      calls = offers 0 0 bare ∷ closes 0 ∷ offers 0 0 bare ∷ [];
      faults = (14, 0) ∷ (0, 0) ∷ (0, 0) ∷ [];
    }
    ∷ []

abbrev pub answer_trials : List Trial
answer_trials =
    -- "Answer: 10, 19, 12, text, 15, 16.", the offer still open after each
    record {
      rows = beside_unsound nothing_held;
      pool = scant;
      calls = answers 2 faulty ∷ answers 0 faulty ∷ answers 1 faulty ∷ [];
      faults = (10, 0) ∷ (19, 0) ∷ (19, 0) ∷ [];
    }
    ∷ record { rows = alone nothing_held; pool = scant; calls = answers 0 faulty ∷ []; faults = (12, 0) ∷ [] }
    ∷ record {
      rows = alone opened;
      pool = scant;
      calls = answers 0 faulty ∷ answers 0 faulty_third ∷ answers 0 two ∷ answers 0 video ∷ answers 0 first_answer ∷ answers 0 first_answer ∷ [];
      faults = (2, 1) ∷ (3, 3) ∷ (15, 0) ∷ (15, 1) ∷ (16, 0) ∷ (16, 0) ∷ [];
    }
    ∷ record { rows = alone opened_two; pool = scant; calls = answers 0 second ∷ []; faults = (15, 2) ∷ [] }
    -- two texts without `m=` are a completed exchange; then there is no component that a bearer could name
    ∷ record {
      rows = alone nothing_held;
      pool = with_pool 0 0;
      calls = offers 0 0 bare ∷ answers 0 bare ∷ asked 1 2 0 ∷ closes 0 ∷ closes 0 ∷ [];
      faults = (0, 0) ∷ (0, 0) ∷ (18, 0) ∷ (0, 0) ∷ (13, 0) ∷ [];
    }
    ∷ []

abbrev pub other_trials : List Trial
other_trials =
    -- "Cancel: 10, 19, 12."
    record {
      rows = beside_unsound opened;
      pool = usual;
      calls = cancels 2 ∷ cancels 0 ∷ cancels 1 ∷ [];
      faults = (10, 0) ∷ (19, 0) ∷ (19, 0) ∷ [];
    }
    -- a cancel leaves what was completed
    ∷ record {
      rows = alone opened_again;
      pool = usual;
      calls = cancels 0 ∷ cancels 0 ∷ closes 0 ∷ [];
      faults = (0, 0) ∷ (12, 0) ∷ (0, 0) ∷ [];
    }
    -- "Close: 10, 19, 11, 13."
    ∷ record {
      rows = beside_unsound opened;
      pool = usual;
      calls = closes 2 ∷ closes 0 ∷ closes 1 ∷ [];
      faults = (10, 0) ∷ (19, 0) ∷ (19, 0) ∷ [];
    }
    ∷ record {
      rows = alone opened;
      pool = usual;
      calls = closes 0 ∷ cancels 0 ∷ closes 0 ∷ [];
      faults = (11, 0) ∷ (0, 0) ∷ (13, 0) ∷ [];
    }
    -- a close leaves a fresh row, which is in range
    ∷ record {
      rows = alone (held first_held);
      pool = usual;
      calls = closes 0 ∷ offers 0 0 bare ∷ [];
      faults = (0, 0) ∷ (0, 0) ∷ [];
    }
    -- "Bearer: 10, 19, 13, 18, 17."
    ∷ record {
      rows = beside_unsound nothing_held;
      pool = usual;
      calls = asked 0 3 0 ∷ asked 0 2 0 ∷ asks 1 (record { set = 1; class = 2; up = 0; down = 0 }) ∷ [];
      faults = (10, 0) ∷ (19, 0) ∷ (19, 0) ∷ [];
    }
    ∷ record { rows = []; pool = usual; calls = asked 0 2 0 ∷ []; faults = (10, 0) ∷ [] }
    ∷ record { rows = alone nothing_held; pool = usual; calls = asked 0 2 0 ∷ []; faults = (13, 0) ∷ [] }
    ∷ record {
      rows = alone opened_again;
      pool = usual;
      calls = asked 0 2 0 ∷ asked 3 2 105001 ∷ asked 1 2 105001 ∷ asked 1 2 105000 ∷ [];
      faults = (18, 0) ∷ (18, 0) ∷ (17, 0) ∷ (0, 0) ∷ [];
    }
    -- "Statement: 10, 19, 13, 20."
    ∷ record {
      rows = beside_unsound nothing_held;
      pool = usual;
      calls = states 2 0 ∷ states 0 0 ∷ states 1 100 ∷ [];
      faults = (10, 0) ∷ (19, 0) ∷ (19, 0) ∷ [];
    }
    ∷ record { rows = alone nothing_held; pool = usual; calls = states 0 0 ∷ []; faults = (13, 0) ∷ [] }
    ∷ record { rows = alone (held first_held); pool = usual; calls = states 0 47 ∷ states 0 48 ∷ []; faults = (20, 0) ∷ (0, 0) ∷ [] }
    ∷ []

abbrev pub trials : List Trial
trials = offer_trials ++ (answer_trials ++ other_trials)
