-- Whole answers, and the rows after: each call accepted and refused. "Every refusal leaves the rows .. unchanged."
use Rattle.std.specs.Prelude.{ℕ, List, [], ◌∷◌, ◌++◌, ℤ, pos, negsuc, replicate}
use Rattle.cursor.specs.Bytes.{bytes}
use Rattle.flow.specs.declared.Settings.{Settings}
use Rattle.flow.specs.Session.{rate, no_component}
use Rattle.book.specs.declared.Offer.{Offer}
use Rattle.book.specs.declared.Reply.{Reply}
use Rattle.book.specs.declared.Row.{Row}
use Rattle.book.specs.Cases.{with_pool, usual, offer_text, answer_text}
use Rattle.book.specs.CasesRows.{media, holding, offering, one_media, nothing_held, first_open, first_held, slow_held, network_held, two_open, two_held, hold_open, network_hold_held, large_held, removed_held, undescribed_held, gone_open, gone_held, held, with_offer, opened, opened_again, drop_open, dropped_held, hold_two_open, hold_two_held, declined_held, unsound, tias_open, tias_held}
use Rattle.book.specs.Evening.{first_offer, first_answer, slow, two, gone}
use Rattle.book.specs.Model.{Call, offers, answers, cancels, closes, asks, states, Called, call_of}

-- an answer field by field; number and place alone, all else being zeros; a change; a grant; a length
abbrev pub told : (number place : ℕ) (up down : ℤ) (class granted_up granted_down length : ℕ) → Reply
told number place up down class granted_up granted_down length =
    record {
      refusal = number;
      place = place;
      change = record { up = up; down = down };
      class = class;
      granted = record { up = rate granted_up; down = rate granted_down };
      length = length;
    }

abbrev pub only : ℕ → ℕ → Reply
only number place = told number place (pos 0) (pos 0) 0 0 0 0

abbrev pub changing : ℤ → ℤ → Reply
changing up down = told 0 0 up down 0 0 0 0

abbrev pub granting : (number class up down : ℕ) → Reply
granting number class up down = told number 0 (pos 0) (pos 0) class up down 0

abbrev pub long : ℕ → ℕ → Reply
long number length = told number 0 (pos 0) (pos 0) 0 0 0 length

-- a call on a book, and the book and the answer then; a refused one leaves the book
pub record Play : Type 0 where
  pub settings : Settings
  pub rows : List Row
  pub call : Call
  pub called : Called

abbrev pub call_played : Play → Called
call_played p = call_of p.settings p.rows p.call

-- on a book of one row
abbrev pub gives : Settings → Row → Call → Row → Reply → Play
gives settings row call then reply =
    record { settings = settings; rows = row ∷ []; call = call; called = record { rows = then ∷ []; out = record { reply = reply; bytes = [] } } }

abbrev pub leaves : Settings → Row → Call → Reply → Play
leaves settings row call reply = gives settings row call row reply

-- on a book of several
abbrev pub gives_all : Settings → List Row → Call → List Row → Reply → Play
gives_all settings rows call then reply =
    record { settings = settings; rows = rows; call = call; called = record { rows = then; out = record { reply = reply; bytes = [] } } }

abbrev pub leaves_all : Settings → List Row → Call → Reply → Play
leaves_all settings rows call reply = gives_all settings rows call rows reply

-- a text with a fault in its first line, one without a media line, one whose port lacks an address, and one of another kind; First on hold, offered and
-- answered; First and video by udp, too; First with TIAS in place of AS
abbrev pub faulty : List ℕ
faulty = bytes "v=1\n"

abbrev pub bare : List ℕ
bare = bytes "v=0\n"

abbrev pub lacking : List ℕ
lacking = bytes "v=0\nm=audio 50000 RTP/AVP 0\n"

abbrev pub video : List ℕ
video = bytes "v=0\nc=IN IP4 192.0.2.9\nm=video 50000 RTP/AVP 0\n"

abbrev pub hold_offer : List ℕ
hold_offer = offer_text (bytes "b=AS:64\na=sendonly\n")

abbrev pub two_offer : List ℕ
two_offer = offer_text (bytes "b=AS:64\nm=video 40002 udp 31\n")

abbrev pub tias_offer : List ℕ
tias_offer = offer_text (bytes "b=TIAS:64001\n")

abbrev pub hold_answer : List ℕ
hold_answer = answer_text (bytes "a=recvonly\n")

abbrev pub two_answer : List ℕ
two_answer = answer_text (bytes "m=video 50002 udp 31\n")

abbrev pub offer_plays : List Play
offer_plays =
    gives usual nothing_held (offers 0 0 first_offer) opened (only 0 0)
    ∷ gives usual (held first_held) (offers 0 1 gone) (with_offer first_held (gone_open 1)) (only 0 0)
    -- "11 | offer or close while an offer is open", whoever offered then and now
    ∷ leaves usual opened (offers 0 0 first_offer) (only 11 0)
    ∷ leaves usual opened (offers 0 1 first_offer) (only 11 0)
    ∷ leaves usual (with_offer first_held (gone_open 1)) (offers 0 1 gone) (only 11 0)
    ∷ leaves usual nothing_held (offers 0 0 faulty) (only 2 1)
    ∷ leaves usual nothing_held (offers 0 2 first_offer) (only 10 0)
    ∷ leaves usual nothing_held (offers 1 0 first_offer) (only 10 0)
    -- "AS decides where present, else TIAS as it stands" (02, 7); "7 also for TIAS, .. at most once"
    ∷ gives usual nothing_held (offers 0 0 tias_offer) (with_offer nothing_held.held tias_open) (only 0 0)
    ∷ gives usual nothing_held (offers 0 0 (offer_text (bytes "b=TIAS:64001\nb=AS:64\n"))) opened (only 0 0)
    ∷ gives usual nothing_held (offers 0 0 (offer_text (bytes "b=AS:64\nb=TIAS:64001\n"))) opened (only 0 0)
    ∷ leaves usual nothing_held (offers 0 0 (offer_text (bytes "b=TIAS:64001\nb=TIAS:64001\n"))) (only 7 5)
    -- "14 | offer with fewer `m=` lines than the last completed exchange": more are good
    ∷ gives usual (held first_held) (offers 0 0 two_offer) (with_offer first_held two_open) (only 0 0)
    ∷ leaves usual (held two_held) (offers 0 0 first_offer) (only 14 0)
    ∷ leaves usual (held two_held) (offers 0 1 first_offer) (only 14 0)
    ∷ leaves usual (held first_held) (offers 0 1 bare) (only 14 0)
    ∷ leaves usual (held first_held) (offers 0 0 lacking) (only 9 2)
    ∷ leaves usual (held first_held) (offers 0 1 faulty) (only 2 1)
    -- "Cancel drops the open offer."
    ∷ gives usual opened_again (cancels 0) (held first_held) (only 0 0)
    ∷ leaves usual nothing_held (cancels 0) (only 12 0)
    ∷ []

-- "Answer and close return the change in booked rates up and down, as signed numbers, new minus old; 0 and 0 when refused."
abbrev pub answer_plays : List Play
answer_plays =
    gives usual opened (answers 0 first_answer) (held first_held) (changing (pos 105000) (pos 67200))
    ∷ gives usual opened_again (answers 0 slow) (held slow_held) (changing (negsuc 83999) (pos 0))
    ∷ gives usual (with_offer nothing_held.held (first_open 1)) (answers 0 first_answer) (held network_held) (changing (pos 67200) (pos 105000))
    ∷ gives usual (with_offer nothing_held.held two_open) (answers 0 two_answer) (held two_held) (changing (pos 205000) (pos 167200))
    -- TIAS alone: "RTCP is never short" (02, 7), a bit more than 3,200; the answer's AS over its TIAS
    ∷ gives usual (with_offer nothing_held.held tias_open) (answers 0 first_answer) (held tias_held) (changing (pos 105000) (pos 67202))
    ∷ gives usual opened_again (answers 0 (answer_text (bytes "b=TIAS:1\nb=AS:20\n"))) (held slow_held) (changing (negsuc 83999) (pos 0))
    -- First by the handset, then on hold by the network: "a component that had both stays with both", and the class is 2
    ∷ gives usual (with_offer first_held (hold_open 1)) (answers 0 hold_answer) (held network_hold_held) (changing (negsuc 37799) (pos 37800))
    -- a re-offer with a line more; one of two dropped by both, as on the night of the bill, and again
    ∷ gives usual (with_offer first_held two_open) (answers 0 two_answer) (held two_held) (changing (pos 100000) (pos 100000))
    ∷ gives usual (with_offer first_held hold_two_open) (answers 0 (answer_text (bytes "a=recvonly\nm=video 50002 udp 31\n"))) (held hold_two_held) (changing (pos 100000) (pos 100000))
    ∷ gives usual (with_offer two_held drop_open) (answers 0 (answer_text (bytes "m=video 0 udp 31\n"))) (held dropped_held) (changing (negsuc 99999) (negsuc 99999))
    ∷ gives usual (with_offer dropped_held drop_open) (answers 0 (answer_text (bytes "m=video 0 udp 31\n"))) (held dropped_held) (changing (pos 0) (pos 0))
    -- the answer may remove what the offer does not, and not the other way round, whoever offered
    ∷ gives usual opened (answers 0 gone) (held declined_held) (changing (pos 0) (pos 0))
    ∷ gives usual (with_offer nothing_held.held (first_open 1)) (answers 0 gone) (held declined_held) (changing (pos 0) (pos 0))
    ∷ leaves usual (with_offer nothing_held.held (gone_open 0)) (answers 0 first_answer) (only 15 1)
    ∷ leaves usual (with_offer nothing_held.held (gone_open 1)) (answers 0 first_answer) (only 15 1)
    ∷ leaves usual opened_again (answers 0 video) (only 15 1)
    ∷ leaves usual opened (answers 0 lacking) (only 9 2)
    ∷ leaves usual (held first_held) (answers 0 first_answer) (only 12 0)
    ∷ leaves usual nothing_held (answers 0 first_answer) (only 12 0)
    ∷ leaves usual opened (answers 0 faulty) (only 2 1)
    ∷ leaves usual opened (answers 0 two) (only 15 0)
    -- "Then port 0 in both texts: change -105,000 and -67,200. Again: 0 and 0."
    ∷ gives usual (with_offer first_held (gone_open 0)) (answers 0 gone) (held gone_held) (changing (negsuc 104999) (negsuc 67199))
    ∷ gives usual (with_offer gone_held (gone_open 0)) (answers 0 gone) (held gone_held) (changing (pos 0) (pos 0))
    -- "Close makes the row fresh."
    ∷ gives usual (held first_held) (closes 0) nothing_held (changing (negsuc 104999) (negsuc 67199))
    ∷ leaves usual opened_again (closes 0) (only 11 0)
    ∷ leaves usual (with_offer first_held (gone_open 1)) (closes 0) (only 11 0)
    ∷ leaves usual nothing_held (closes 0) (only 13 0)
    -- what a lent row books, whatever its status and what is described of it; rates of more than 32 bits
    ∷ gives usual (held removed_held) (closes 0) nothing_held (changing (negsuc 2) (negsuc 11))
    ∷ gives usual (held undescribed_held) (closes 0) nothing_held (changing (negsuc 2) (negsuc 11))
    ∷ gives usual (held large_held) (closes 0) nothing_held (changing (negsuc 8589934589) (pos 0))
    ∷ []

-- an open offer with the largest requested rate; a session whose flow goes, beside one that stays; sixteen sessions
abbrev pub widest_open : Offer
widest_open = offering 1 0 1 (one_media (media 1 1 1 40000 1 3221225985 1 4294967295 0 0 0 0))

abbrev pub beside_going : List Row
beside_going = held first_held ∷ with_offer first_held (gone_open 0) ∷ []

abbrev pub sixteen : List Row
sixteen = replicate 15 (held first_held) ++ (opened_again ∷ [])

-- 16: "new booked total above the pool, up or down", also where the change is 0 or below it; "close gives no 16"
abbrev pub pool_plays : List Play
pool_plays =
    gives (with_pool 105000 67200) opened (answers 0 first_answer) (held first_held) (changing (pos 105000) (pos 67200))
    ∷ leaves (with_pool 104999 67200) opened (answers 0 first_answer) (only 16 0)
    ∷ leaves (with_pool 105000 67199) opened (answers 0 first_answer) (only 16 0)
    ∷ gives (with_pool 105000 67200) opened_again (answers 0 first_answer) (held first_held) (changing (pos 0) (pos 0))
    ∷ leaves (with_pool 104999 67200) opened_again (answers 0 first_answer) (only 16 0)
    ∷ gives (with_pool 21000 67200) opened_again (answers 0 slow) (held slow_held) (changing (negsuc 83999) (pos 0))
    ∷ leaves (with_pool 20999 67200) opened_again (answers 0 slow) (only 16 0)
    ∷ gives (with_pool 0 0) (held first_held) (closes 0) nothing_held (changing (negsuc 104999) (negsuc 67199))
    ∷ leaves (with_pool 105000 67199) opened_again (answers 0 first_answer) (only 16 0)
    ∷ leaves (with_pool 21000 67199) opened_again (answers 0 slow) (only 16 0)
    -- a pool of 0
    ∷ leaves (with_pool 0 1000000) opened (answers 0 first_answer) (only 16 0)
    ∷ leaves (with_pool 1000000 0) opened (answers 0 first_answer) (only 16 0)
    -- the network offered
    ∷ gives (with_pool 67200 105000) (with_offer nothing_held.held (first_open 1)) (answers 0 first_answer) (held network_held) (changing (pos 67200) (pos 105000))
    ∷ leaves (with_pool 67199 105000) (with_offer nothing_held.held (first_open 1)) (answers 0 first_answer) (only 16 0)
    ∷ leaves (with_pool 67200 104999) (with_offer nothing_held.held (first_open 1)) (answers 0 first_answer) (only 16 0)
    ∷ gives (with_pool 67200 105000) (with_offer network_held (first_open 1)) (answers 0 first_answer) (held network_held) (changing (pos 0) (pos 0))
    -- the bit more of a twentieth that is rounded up counts
    ∷ gives (with_pool 105000 67202) (with_offer nothing_held.held tias_open) (answers 0 first_answer) (held tias_held) (changing (pos 105000) (pos 67202))
    ∷ leaves (with_pool 105000 67201) (with_offer nothing_held.held tias_open) (answers 0 first_answer) (only 16 0)
    -- TIAS:4294967295, whose rate with its RTCP is above any pool
    ∷ leaves (with_pool 4294967295 4294967295) (with_offer nothing_held.held widest_open) (answers 0 first_answer) (only 16 0)
    -- with what the other sessions book, an offer open there or not
    ∷ gives_all (with_pool 210000 134400) (held first_held ∷ opened ∷ []) (answers 1 first_answer) (held first_held ∷ held first_held ∷ []) (changing (pos 105000) (pos 67200))
    ∷ leaves_all (with_pool 209999 134400) (held first_held ∷ opened ∷ []) (answers 1 first_answer) (only 16 0)
    ∷ leaves_all (with_pool 210000 134399) (held first_held ∷ opened ∷ []) (answers 1 first_answer) (only 16 0)
    ∷ gives_all (with_pool 210000 134400) (opened ∷ held first_held ∷ []) (answers 0 first_answer) (held first_held ∷ held first_held ∷ []) (changing (pos 105000) (pos 67200))
    ∷ leaves_all (with_pool 209999 134400) (opened ∷ held first_held ∷ []) (answers 0 first_answer) (only 16 0)
    ∷ gives_all (with_pool 210000 134400) (opened_again ∷ opened ∷ []) (answers 1 first_answer) (opened_again ∷ held first_held ∷ []) (changing (pos 105000) (pos 67200))
    ∷ leaves_all (with_pool 209999 134400) (opened_again ∷ opened ∷ []) (answers 1 first_answer) (only 16 0)
    ∷ leaves_all (with_pool 210000 134399) (opened_again ∷ opened ∷ []) (answers 1 first_answer) (only 16 0)
    -- .. where this one books nothing any more
    ∷ gives_all (with_pool 105000 67200) beside_going (answers 1 gone) (held first_held ∷ held gone_held ∷ []) (changing (negsuc 104999) (negsuc 67199))
    ∷ leaves_all (with_pool 104999 67200) beside_going (answers 1 gone) (only 16 0)
    ∷ leaves_all (with_pool 105000 67199) beside_going (answers 1 gone) (only 16 0)
    -- .. of sixteen rows, and of one that books more than 32 bits hold
    ∷ gives_all (with_pool 1680000 1075200) sixteen (answers 15 first_answer) (replicate 16 (held first_held)) (changing (pos 0) (pos 0))
    ∷ leaves_all (with_pool 1679999 1075200) sixteen (answers 15 first_answer) (only 16 0)
    ∷ leaves_all (with_pool 1680000 1075199) sixteen (answers 15 first_answer) (only 16 0)
    ∷ leaves_all (with_pool 4294967295 4294967295) (held large_held ∷ opened_again ∷ []) (answers 1 first_answer) (only 16 0)
    ∷ []

-- 19 leaves every row, the bad one too
abbrev pub unsound_plays : List Play
unsound_plays =
    leaves_all usual (held first_held ∷ unsound ∷ []) (offers 0 0 first_offer) (only 19 0)
    ∷ leaves_all usual (held first_held ∷ unsound ∷ []) (offers 1 0 first_offer) (only 19 0)
    ∷ leaves_all usual (opened ∷ unsound ∷ []) (answers 0 first_answer) (only 19 0)
    ∷ leaves_all usual (opened ∷ unsound ∷ []) (answers 1 first_answer) (only 19 0)
    ∷ leaves_all usual (opened ∷ unsound ∷ []) (cancels 0) (only 19 0)
    ∷ leaves_all usual (opened ∷ unsound ∷ []) (cancels 1) (only 19 0)
    ∷ leaves_all usual (held first_held ∷ unsound ∷ []) (closes 0) (only 19 0)
    ∷ leaves_all usual (held first_held ∷ unsound ∷ []) (closes 1) (only 19 0)
    ∷ leaves_all usual (held first_held ∷ unsound ∷ []) (asks 0 (record { set = 1; class = 2; up = 0; down = 0 })) (only 19 0)
    ∷ leaves_all usual (held first_held ∷ unsound ∷ []) (states 0 100) (only 19 0)
    ∷ []

-- "Bearer returns authorised class and rates on acceptance and on 17, else zeros.", also while an offer is open
abbrev pub asking : (set class up down : ℕ) → Call
asking set class up down = asks 0 (record { set = set; class = class; up = up; down = down })

abbrev pub bearer_plays : List Play
bearer_plays =
    leaves usual opened_again (asking 1 2 105000 67200) (granting 0 2 105000 67200)
    ∷ leaves usual (held first_held) (asking 1 2 105001 67200) (granting 17 2 105000 67200)
    ∷ leaves usual (held first_held) (asking 1 2 105000 67201) (granting 17 2 105000 67200)
    ∷ leaves usual (held first_held) (asking 2 2 0 0) (only 18 0)
    ∷ leaves usual (held first_held) (asking 1 3 0 0) (only 10 0)
    ∷ leaves usual opened (asking 1 2 0 0) (only 13 0)
    -- what is returned is what is authorised, whatever is asked
    ∷ leaves usual (held first_held) (asking 1 9 0 0) (granting 0 2 105000 67200)
    ∷ leaves usual (held first_held) (asking 1 2 4294967296 0) (granting 17 2 105000 67200)
    ∷ leaves usual (held first_held) (asking 1 2 0 18446744073709551615) (granting 17 2 105000 67200)
    ∷ leaves usual (held two_held) (asking 3 4 205000 167200) (granting 0 2 205000 167200)
    ∷ leaves usual (held two_held) (asking 2 2 1 1) (granting 0 2 100000 100000)
    -- 18: "any bit of the set past the count, however high"
    ∷ leaves usual (held first_held) (asking 257 2 0 0) (only 18 0)
    ∷ leaves usual (held first_held) (asking 9223372036854775809 2 0 0) (only 18 0)
    ∷ leaves usual (held first_held) (asking 1 258 0 0) (only 10 0)
    -- one that names only removed components
    ∷ leaves usual (held gone_held) (asking 1 2 0 0) (granting 17 0 0 0)
    ∷ []

-- "The length is returned, on 20 the length needed, on other refusals 0."
abbrev pub statement_plays : List Play
statement_plays =
    record {
      settings = usual;
      rows = opened_again ∷ [];
      call = states 0 48;
      called =
          record {
            rows = opened_again ∷ [];
            out = record { reply = long 0 48; bytes = bytes "components 1\n1 audio 2 2 100000 64000 5000 3200\n" };
          };
    }
    ∷ leaves usual (held first_held) (states 0 47) (long 20 48)
    ∷ leaves usual (held first_held) (states 0 0) (long 20 48)
    -- two components, and none
    ∷ record {
      settings = usual;
      rows = held two_held ∷ [];
      call = states 0 100;
      called =
          record {
            rows = held two_held ∷ [];
            out = record { reply = long 0 78; bytes = bytes "components 2\n1 audio 2 2 100000 64000 5000 3200\n2 video 2 2 100000 100000 0 0\n" };
          };
    }
    ∷ record {
      settings = usual;
      rows = held (holding 1 0 0 (replicate 8 no_component)) ∷ [];
      call = states 0 13;
      called =
          record {
            rows = held (holding 1 0 0 (replicate 8 no_component)) ∷ [];
            out = record { reply = long 0 13; bytes = bytes "components 0\n" };
          };
    }
    ∷ leaves usual (held (holding 1 0 0 (replicate 8 no_component))) (states 0 0) (long 20 13)
    ∷ leaves usual opened (states 0 100) (only 13 0)
    ∷ leaves usual (held first_held) (states 1 100) (only 10 0)
    ∷ []
