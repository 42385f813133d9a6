-- Calls on lent rows, by the definitions: computed. Assumes nothing.
use Prim.Native.Nat.{ℕ}
use mathlib.Core.Path.{◌≡◌, refl}
use mathlib.Core.List.{List, [], ◌∷◌, ◌++◌, map}
use lib.IntN.{pos, negsuc}
use lib.ListN.{replicate}
use Rattle.cursor.specs.Bytes.{bytes}
use Rattle.flow.specs.Session.{rate}
use Rattle.book.specs.declared.Reply.{Reply}
use Rattle.book.specs.declared.Row.{Row}
use Rattle.book.specs.Booking.{no_rates}
use Rattle.book.specs.Calls.{no_change, refused_with, accepted_reply, settled}
use Rattle.book.specs.Cases.{usual}
use Rattle.book.specs.Demand3.{fresh_book}
use Rattle.book.specs.Model.{Call, offers, answers, closes, states, end}
use Rattle.book.specs.Serial.{calls_of}
use Rattle.book.proofs.Computing as Book
use Rattle.lent.specs.Lent.{over, Made, gave, gave_into}
use Rattle.lent.specs.Played.{Played, last_rows, told, came_lent, left_lent}

-- "bytes past the end unchanged"; where no byte is written, none changes
pub over_the_first : (over (bytes "ab") (bytes "wxyz") ≡ bytes "abyz") × (over [] (bytes "wxyz") ≡ bytes "wxyz")
over_the_first = (refl, refl)

-- An exchange without media in session 0; a second offer, 11; an offer in session 1, open in the end; a statement with two bytes to spare, one that
-- lacks a byte, 20; and no third session, 10.
abbrev text : List ℕ
text = bytes "v=0\n"

abbrev calls : List Call
calls =
    offers 0 0 text
    ∷ offers 0 0 text
    ∷ answers 0 text
    ∷ offers 1 1 text
    ∷ states 0 15
    ∷ states 0 12
    ∷ closes 2
    ∷ []

-- the rows after the first, the third and the fourth call
abbrev opened : List Row
opened = end usual (fresh_book 2) (offers 0 0 text ∷ [])

abbrev completed : List Row
completed = end usual (fresh_book 2) (offers 0 0 text ∷ answers 0 text ∷ [])

abbrev waiting : List Row
waiting = end usual (fresh_book 2) (offers 0 0 text ∷ answers 0 text ∷ offers 1 1 text ∷ [])

-- the answers to a statement
abbrev stated : ℕ → Reply
stated refusal = record { refusal = refusal; place = 0; change = no_change; class = 0; granted = no_rates; length = 13 }

abbrev statement : List ℕ
statement = bytes "components 0\n"

abbrev mades : List Made
mades =
    gave accepted_reply opened
    ∷ gave (refused_with 11 0) opened
    ∷ gave accepted_reply completed
    ∷ gave accepted_reply waiting
    ∷ gave_into (stated 0) waiting (replicate 15 7) (statement ++ (7 ∷ 7 ∷ []))
    ∷ gave_into (stated 20) waiting (replicate 12 7) (replicate 12 7)
    ∷ gave (refused_with 10 0) waiting
    ∷ []

-- These calls give that.
pub came_so : Played usual (fresh_book 2) calls mades
unfolding Book.computing
came_so = (
  record { answer = refl; rows = refl; buffer = refl },
  (
    record { answer = refl; rows = refl; buffer = refl },
    (
      record { answer = refl; rows = refl; buffer = refl },
      (
        record { answer = refl; rows = refl; buffer = refl },
        (
          record { answer = refl; rows = refl; buffer = refl },
          (
            record { answer = refl; rows = refl; buffer = refl },
            (
              record { answer = refl; rows = refl; buffer = refl },
              tt,
            ),
          ),
        ),
      ),
    ),
  ),
)

-- What a host reads: the statement's bytes alone where it was accepted, "on 20 the length needed" and none, and none where no buffer is lent.
pub told_so :
    (told (gave_into (stated 0) waiting (replicate 15 7) (statement ++ (7 ∷ 7 ∷ []))) ≡ record { reply = stated 0; bytes = statement })
    × (told (gave_into (stated 20) waiting (replicate 12 7) (replicate 12 7)) ≡ record { reply = stated 20; bytes = [] })
    × (told (gave accepted_reply completed) ≡ record { reply = accepted_reply; bytes = [] })
told_so = (refl, refl, refl)

-- .. and of the answer every field, a place, changes, class and rates with it
abbrev replied : Reply
replied =
    record {
      refusal = 0;
      place = 1;
      change = record { up = pos 2; down = negsuc 3 };
      class = 4;
      granted = record { up = rate 5; down = rate 6 };
      length = 2;
    }

pub told_whole : told (gave_into replied waiting (bytes "abc") (bytes "xyz")) ≡ record { reply = replied; bytes = bytes "xy" }
told_whole = refl

-- "Leave out the refused ones, .. and the offers still open."
pub left_so :
    left_lent calls mades
    ≡ record { call = offers 0 0 text; out = record { reply = accepted_reply; bytes = [] } }
    ∷ record { call = answers 0 text; out = record { reply = accepted_reply; bytes = [] } }
    ∷ record { call = states 0 15; out = record { reply = stated 0; bytes = statement } }
    ∷ []
unfolding Book.computing
left_so = refl

-- Played that way, into a buffer of other bytes: the same answers, the same bytes of the statement, and the rows but for the open offer.
abbrev again : List Made
again =
    gave accepted_reply opened
    ∷ gave accepted_reply completed
    ∷ gave_into (stated 0) completed (replicate 15 9) (statement ++ (9 ∷ 9 ∷ []))
    ∷ []

pub again_so : Played usual (fresh_book 2) (calls_of (left_lent calls mades)) again
unfolding Book.computing
again_so = (
  record { answer = refl; rows = refl; buffer = refl },
  (
    record { answer = refl; rows = refl; buffer = refl },
    (
      record { answer = refl; rows = refl; buffer = refl },
      tt,
    ),
  ),
)

pub ends_so :
    (came_lent (calls_of (left_lent calls mades)) again ≡ left_lent calls mades)
    × (last_rows (fresh_book 2) mades ≡ waiting)
    × (last_rows (fresh_book 2) again ≡ map settled waiting)
unfolding Book.computing
ends_so = (refl, refl, refl)
