-- All definitions by which a call file is read from its bytes, under one name. Assumes nothing.
use Rattle.cursor.specs.Bytes as Bytes
use Rattle.cursor.specs.Cursor as Cursor
use Rattle.frame.specs.Frame as Frame
use Rattle.callfile.specs.Ask as Ask
use Rattle.callfile.specs.Sections as Sections

unfoldable pub computing : Unit {0}
unfolding Bytes.front Bytes.is_digit Bytes.decimal Cursor.other Cursor.mark_at Cursor.number_of Cursor.number_at Cursor.figure_at Frame.number_at Frame.number_line Frame.text_at Frame.numbers_from Frame.numbers_at Ask.figure_count Ask.ask_with Ask.letter Ask.session Ask.text_number Ask.lacks_text Ask.behind Ask.ask_at Ask.span_of Ask.asks_from Ask.calls_good Sections.settings_of Sections.settings_at Sections.texts_from Sections.texts_at Sections.calls_in Sections.read_file
computing = tt
