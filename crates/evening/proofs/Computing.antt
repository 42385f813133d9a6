-- All definitions by which an evening is computed from the bytes of its call file, under one name. Assumes nothing.
use Rattle.cursor.specs.Cursor as Cursor
use Rattle.frame.specs.Frame as Frame
use Rattle.callfile.specs.Ask as Ask
use Rattle.callfile.specs.Sections as Sections
use Rattle.put.specs.Number as Number
use Rattle.book.proofs.Computing as Book
use Rattle.evening.specs.Playing as Playing
use Rattle.evening.specs.EveningPlayed as Played

unfoldable pub computing : Unit {0}
unfolding Book.computing Cursor.other Cursor.mark_at Cursor.number_of Cursor.number_at Cursor.figure_at Frame.number_at Frame.number_line Frame.text_at Frame.numbers_from Frame.numbers_at Ask.figure_count Ask.ask_with Ask.letter Ask.session Ask.lacks_text Ask.behind Ask.ask_at Ask.asks_from Ask.calls_good Sections.settings_of Sections.settings_at Sections.texts_from Sections.texts_at Sections.calls_in Sections.read_file Number.signed Ask.text_number Ask.span_of Playing.call_with Playing.call_as Playing.ended Playing.tail_of Playing.answer_line Playing.answer_lines Playing.calls_line Playing.booked_line Playing.answered Playing.evening Playing.output_of Playing.output Playing.output_into Played.letter_of Played.entry_lines Played.printed_sum
computing = tt
