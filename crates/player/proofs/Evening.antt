-- What is printed for a call file: an evening of which demand 3 speaks, or `bad file`. Assumes nothing.
use Rattle.std.specs.Prelude.{Some, None}
use Prim.Native.Nat.{ℕ, suc}
use native.Mathlib.Omega.{arith}
use mathlib.Core.Path.{◌≡◌, refl, sym, ◌∙◌, ap, ap₂}
use mathlib.Core.List.{List, [], ◌∷◌, ◌++◌, map}
use mathlib.Core.Bool.{false, cond, false≢true}
use lib.Dec.{ltb}
use lib.IntN.{ℤ, pos, ◌+ℤ◌}
use lib.ListN.{length, length-map, get_or}
use borrow.Author.Tests.{ltb-true}
use Rattle.cursor.specs.Bytes.{bytes}
use Rattle.flow.specs.declared.Settings.{Settings}
use Rattle.flow.specs.Range.{SettingsRange}
use Rattle.flow.proofs.Tests.{by_test}
use Rattle.book.specs.declared.Change.{Change}
use Rattle.book.specs.declared.Row.{Row}
use Rattle.book.specs.Calls.{fresh_row, no_change}
use Rattle.book.specs.Look.{nothing_seen}
use Rattle.book.specs.Booking.{rates_of}
use Rattle.book.specs.Model.{Call, offers, answers, cancels, closes, asks, states, session_of, Out, look, row_call, call_of, log, end}
use Rattle.book.specs.Serial.{logged}
use Rattle.book.specs.Demand3.{fresh_book, sum_of_changes}
use Rattle.demands.proofs.Demand3.{demand_3, changes_are_booked}
use Rattle.demands.proofs.Fresh.{fresh_pooled}
use Rattle.demands.proofs.Named.{out_in, out_far}
use Rattle.demands.proofs.Offers.{same_change, offer_holds, cancel_holds, change_told}
use Rattle.frame.specs.declared.Span.{Span}
use Rattle.callfile.specs.declared.CallFile.{CallFile}
use Rattle.callfile.specs.declared.ask.Ask.{Ask}
use Rattle.callfile.specs.declared.ask.Ask.TheVariants as ask
use Rattle.callfile.specs.Ask.{letter, asks_from}
use Rattle.callfile.specs.Sections.{read_file}
use Rattle.callreader.proofs.Reading.{file_small, asks_all}
use Rattle.evening.specs.Playing.{call_with, call_as, tells_change, answer_line, answer_lines, booked_line, calls_line, answered, evening, output_of, output}
use Rattle.evening.specs.EveningPlayed.{file_settings, file_calls, file_came, file_end, letter_of, entry_lines, printed_sum, EveningPlayed}

-- The letter of a call is the letter of its line.
letter_with : (text : List ℕ) (a : Ask) → letter_of (call_with text a) ≡ letter a
unfolding call_with letter_of letter
letter_with text (ask.Offer n origin t) = refl
letter_with text (ask.Answer n t) = refl
letter_with text (ask.Cancel n) = refl
letter_with text (ask.Close n) = refl
letter_with text (ask.Bearer n asked) = refl

module _ (settings : Settings) (s : List ℕ) (spans : List Span) where
  letter_as : (a : Ask) → letter_of (call_as s spans a) ≡ letter a
  unfolding call_as
  letter_as a = letter_with _ a

  -- The lines of the calls are the lines of the log.
  lines_logged : (l : List Ask) (position : ℕ) (rows : List Row)
      → answer_lines position l (log settings rows (map (call_as s spans) l)) ≡ entry_lines position (logged settings rows (map (call_as s spans) l))
  unfolding answer_lines entry_lines log
  lines_logged [] position rows = refl
  lines_logged (a ∷ l) position rows =
      let called = call_of settings rows (call_as s spans a) in
      ap₂ (λ letter rest. answer_line position letter called.out.reply ++ rest) (sym (letter_as a)) (lines_logged l (suc position) called.rows)

module _ (settings : Settings) where
  -- A call whose line tells no change makes none.
  row_silent : (rows : List Row) (row : Row) (call : Call) → tells_change (letter_of call) ≡ false
      → (row_call settings (look nothing_seen rows) row call).out.reply.change ≡ no_change
  unfolding letter_of row_call
  row_silent rows row (offers session origin text) e =
      change_told row (look nothing_seen rows) settings (offers session origin text)
      ∙ same_change _ _ (ap rates_of (offer_holds row (look nothing_seen rows) origin text))
  row_silent rows row (answers session text) e = absurd (false≢true (sym e))
  row_silent rows row (cancels session) e =
      change_told row (look nothing_seen rows) settings (cancels session) ∙ same_change _ _ (ap rates_of (cancel_holds row (look nothing_seen rows)))
  row_silent rows row (closes session) e = absurd (false≢true (sym e))
  row_silent rows row (asks session bearer) e = change_told row (look nothing_seen rows) settings (asks session bearer) ∙ same_change (rates_of row.held) (rates_of row.held) refl
  row_silent rows row (states session room) e = change_told row (look nothing_seen rows) settings (states session room) ∙ same_change (rates_of row.held) (rates_of row.held) refl

  silent : (rows : List Row) (call : Call) → tells_change (letter_of call) ≡ false → (call_of settings rows call).out.reply.change ≡ no_change
  silent rows call e =
      by_test (ltb (session_of call) (length rows))
      (λ t.
      ap (λ (out : Out). out.reply.change) (out_in settings rows call (ltb-true (session_of call) (length rows) t))
      ∙ row_silent rows (get_or rows (session_of call) fresh_row) call e)
      (λ t. ap (λ (out : Out). out.reply.change) (out_far settings rows call t))

  change_printed : (part : Change → ℤ) → part no_change ≡ pos 0 → (rows : List Row) (call : Call)
      → cond (tells_change (letter_of call)) (part (call_of settings rows call).out.reply.change) (pos 0) ≡ part (call_of settings rows call).out.reply.change
  change_printed part none rows call =
      by_test (tells_change (letter_of call)) (λ e. rw e) (λ e. rw e (sym (ap part (silent rows call e) ∙ none)))

  -- So the changes on the lines add up to all changes reported.
  sum_printed : (part : Change → ℤ) → part no_change ≡ pos 0 → (calls : List Call) (rows : List Row)
      → printed_sum (λ out. part out.reply.change) (logged settings rows calls) ≡ sum_of_changes (λ out. part out.reply.change) (log settings rows calls)
  unfolding printed_sum sum_of_changes log
  sum_printed part none [] rows = refl
  sum_printed part none (call ∷ calls) rows =
      ap₂ ◌+ℤ◌ (change_printed part none rows call) (sum_printed part none calls (call_of settings rows call).rows)

module _ (s : List ℕ) where
  module _ (file : CallFile) (read : read_file s ≡ Some file) where
    abbrev asked : List Ask
    asked = asks_from file.calls s file.texts.count file.at.at

    counted : file.calls ≡ length (map (call_as s file.texts.spans) asked)
    counted = sym (length-map asked (call_as s file.texts.spans) ∙ asks_all s file read)

    printed : output s ≡ calls_line (length (file_calls s)) ++ (entry_lines 1 (file_came s) ++ booked_line (file_end s))
    unfolding output output_of evening answered
    printed =
        rw read
        (ap₂ (λ count lines. calls_line count ++ (lines ++ booked_line (end file.settings (fresh_book 16) (map (call_as s file.texts.spans) asked)))) counted
        (lines_logged file.settings s file.texts.spans asked 1 (fresh_book 16)))

    limits : SettingsRange (file_settings s)
    limits = rw read (file_small s file read).defaults

    -- A file that is well formed prints an evening of which demand 3 speaks.
    pub evening_played : EveningPlayed s
    evening_played =
        let booked = changes_are_booked (file_settings s) limits 16 (omega arith) (file_calls s) in
        record {
          lines = printed;
          demand_3 = demand_3 (file_settings s) limits 16 (omega arith) (file_calls s);
          up = sum_printed (file_settings s) (λ change. change.up) refl (file_calls s) (fresh_book 16) ∙ booked.up;
          down = sum_printed (file_settings s) (λ change. change.down) refl (file_calls s) (fresh_book 16) ∙ booked.down;
          pooled = fresh_pooled (file_settings s) limits 16 (omega arith) (file_calls s);
        }

  -- "A malformed file prints `bad file` alone."
  pub bad_played : read_file s ≡ None → output s ≡ bytes "bad file\n"
  unfolding output output_of
  bad_played bad = rw bad
