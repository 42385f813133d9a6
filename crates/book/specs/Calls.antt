-- The calls on one row: what the look at all rows saw and the row as it was, to the row as it is then and the answer.
-- "Every refusal leaves the rows and lent buffers unchanged."
use Rattle.std.specs.Prelude.{ℕ, List, [], Bool, true, cond, not, ◌||◌, ltb, leb, eqb, pos, length, replicate}
use Rattle.sdp.specs.Section.{no_media}
use Rattle.sdp.specs.Range.{from1}
use Rattle.sdp.specs.Text.{read_text}
use Rattle.sdp.specs.declared.Text.{Text}
use Rattle.flow.specs.declared.Asked.{Asked}
use Rattle.flow.specs.declared.Authorised.{Authorised}
use Rattle.flow.specs.declared.Held.{Held}
use Rattle.flow.specs.declared.Limit.{Limit}
use Rattle.flow.specs.declared.Rates.{Rates}
use Rattle.flow.specs.declared.Settings.{Settings}
use Rattle.flow.specs.Bearer.{authorised}
use Rattle.flow.specs.Before.{before_of}
use Rattle.flow.specs.Derive.{derived}
use Rattle.flow.specs.Range.{held_rates}
use Rattle.flow.specs.Session.{fresh_held, rate}
use Rattle.flow.specs.Fit.{said, fit_of}
use Rattle.statement.specs.declared.Written.{Written}
use Rattle.statement.specs.Statement.{statement_of, written, after}
use Rattle.book.specs.declared.Change.{Change}
use Rattle.book.specs.declared.Offer.{Offer}
use Rattle.book.specs.declared.Reply.{Reply}
use Rattle.book.specs.declared.Row.{Row}
use Rattle.book.specs.declared.Seen.{Seen}
use Rattle.book.specs.declared.Stepped.{Stepped}
use Rattle.book.specs.Booking.{rates_of, no_rates, change_of, above}

-- no offer is open; "A fresh row has none of these, and class 0."
abbrev pub no_offer : Offer
no_offer = record { present = 0; origin = 0; said = record { count = 0; media = replicate 8 no_media } }

abbrev pub fresh_row : Row
fresh_row = record { held = fresh_held; offer = no_offer }

-- the row but for its open offer
abbrev pub settled : Row → Row
settled row = record { held = row.held; offer = no_offer }

-- answers
abbrev pub no_change : Change
no_change = record { up = pos 0; down = pos 0 }

abbrev pub refused_with : ℕ → ℕ → Reply
refused_with number place = record { refusal = number; place = place; change = no_change; class = 0; granted = no_rates; length = 0 }

abbrev pub accepted_reply : Reply
accepted_reply = refused_with 0 0

abbrev pub changed_by : Rates → Rates → Reply
changed_by new old = record { refusal = 0; place = 0; change = change_of new old; class = 0; granted = no_rates; length = 0 }

abbrev pub stays : Row → ℕ → ℕ → Stepped
stays row number place = record { row = row; reply = refused_with number place }

-- "The host lends the book as a list of session rows, 1 to 16 of them."
abbrev pub most_rows : ℕ
most_rows = 16

-- 10: "rows not 1-16; origin not 0 or 1; class not 2, 4, 6, 8, 9"; a session that is not below the rows has no row here. 19: "any lent row,
-- named or not, holds a value outside its field's range", which the look at all rows has seen. Of the row itself only the rates are tested once
-- more, so that no sum of them is too large whatever a look may say
unfoldable pub barred : Seen → Row → Bool → ℕ
barred seen row well =
    cond (not (from1 most_rows seen.rows) || not well) 10
    (cond (eqb seen.sound 0 || not (held_rates row.held)) 19
    0)

-- "Offer: 10, 19, 11, text, 14."
unfoldable pub offer_said : Row → ℕ → Text → Stepped
offer_said row origin t =
    cond (not (eqb t.refusal 0)) (stays row t.refusal t.place)
    (cond (ltb t.count row.held.count) (stays row 14 0)
    (record { row = record { held = row.held; offer = record { present = 1; origin = origin; said = said t } }; reply = accepted_reply }))

unfoldable pub offer_step : Row → Seen → ℕ → List ℕ → Stepped
offer_step row seen origin text =
    cond (not (eqb (barred seen row (leb origin 1)) 0)) (stays row (barred seen row (leb origin 1)) 0)
    (cond (not (eqb row.offer.present 0)) (stays row 11 0)
    (offer_said row origin (read_text text)))

-- "Answer: 10, 19, 12, text, 15, 16."
abbrev pub derives : Settings → Row → Text → Held
derives settings row t = derived settings row.offer.origin (before_of row.held) row.offer.said (said t)

unfoldable pub answer_books : Row → Seen → Limit → Held → Stepped
answer_books row seen pool held =
    cond (above pool seen.booked (rates_of row.held) (rates_of held)) (stays row 16 0)
    (record { row = record { held = held; offer = no_offer }; reply = changed_by (rates_of held) (rates_of row.held) })

unfoldable pub answer_said : Row → Seen → Settings → Text → Stepped
answer_said row seen settings t =
    cond (not (eqb t.refusal 0)) (stays row t.refusal t.place)
    (cond (not (eqb (fit_of row.offer.said (said t)).refusal 0)) (stays row 15 (fit_of row.offer.said (said t)).place)
    (answer_books row seen settings.pool (derives settings row t)))

unfoldable pub answer_step : Row → Seen → Settings → List ℕ → Stepped
answer_step row seen settings text =
    cond (not (eqb (barred seen row true) 0)) (stays row (barred seen row true) 0)
    (cond (eqb row.offer.present 0) (stays row 12 0)
    (answer_said row seen settings (read_text text)))

-- "Cancel: 10, 19, 12." "Cancel drops the open offer."
unfoldable pub cancel_step : Row → Seen → Stepped
cancel_step row seen =
    cond (not (eqb (barred seen row true) 0)) (stays row (barred seen row true) 0)
    (cond (eqb row.offer.present 0) (stays row 12 0)
    (record { row = settled row; reply = accepted_reply }))

-- "Close: 10, 19, 11, 13." "Close makes the row fresh."
unfoldable pub close_step : Row → Seen → Stepped
close_step row seen =
    cond (not (eqb (barred seen row true) 0)) (stays row (barred seen row true) 0)
    (cond (not (eqb row.offer.present 0)) (stays row 11 0)
    (cond (eqb row.held.completed 0) (stays row 13 0)
    (record { row = fresh_row; reply = changed_by no_rates (rates_of row.held) })))

-- "Bearer: 10, 19, 13, 18, 17." "Bearer returns authorised class and rates on acceptance and on 17, else zeros."
unfoldable pub is_asked : ℕ → Bool
is_asked n = cond (eqb n 2) true (cond (eqb n 4) true (cond (eqb n 6) true (cond (eqb n 8) true (eqb n 9))))

abbrev pub grants : Authorised → Reply
grants a =
    record {
      refusal = a.refusal;
      place = 0;
      change = no_change;
      class = a.class;
      granted = record { up = rate a.up; down = rate a.down };
      length = 0;
    }

unfoldable pub bearer_step : Row → Seen → Asked → Reply
bearer_step row seen asked =
    cond (not (eqb (barred seen row (is_asked asked.class)) 0)) (refused_with (barred seen row (is_asked asked.class)) 0)
    (cond (eqb row.held.completed 0) (refused_with 13 0)
    (grants (authorised row.held asked)))

-- "Statement: 10, 19, 13, 20." "The length is returned, on 20 the length needed, on other refusals 0."
abbrev pub wrote : Written → Reply
wrote w = record { refusal = w.refusal; place = 0; change = no_change; class = 0; granted = no_rates; length = w.length }

unfoldable pub statement_step : Row → Seen → ℕ → Reply
statement_step row seen room =
    cond (not (eqb (barred seen row true) 0)) (refused_with (barred seen row true) 0)
    (cond (eqb row.held.completed 0) (refused_with 13 0)
    (wrote (written row.held room)))

-- what the buffer l holds then: the statement before the bytes past its end, or l as it was
unfoldable pub statement_into : Row → Seen → List ℕ → List ℕ
statement_into row seen l = cond (eqb (statement_step row seen (length l)).refusal 0) (after row.held l) l

-- the bytes of an accepted one
unfoldable pub statement_bytes : Row → Reply → List ℕ
statement_bytes row reply = cond (eqb reply.refusal 0) (statement_of row.held) []
