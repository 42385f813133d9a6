-- All definitions by which a text is read, and those of the ranges, under one name. Assumes nothing.
use Rattle.cursor.specs.Bytes as Bytes
use Rattle.cursor.specs.Parts as Parts
use Rattle.sdp.specs.Line as Line
use Rattle.sdp.specs.Media as Media
use Rattle.sdp.specs.Connection as Connection
use Rattle.sdp.specs.Bandwidth as Bandwidth
use Rattle.sdp.specs.Direction as Direction
use Rattle.sdp.specs.Section as Section
use Rattle.sdp.specs.Text as Text
use Rattle.sdp.specs.Range as Range
use Rattle.sdp.specs.Default as Default
use Rattle.sdp.specs.Requests as Requests

unfoldable pub computing : Unit {0}
unfolding Text.read_text Text.read_lines Text.read_from Text.step Text.whole Text.lacking Line.is_text Line.is_letter Line.bare Line.is_line Line.lines_among Line.lines_of Media.kind_of Media.transport_of Media.verdict Media.media_of Connection.address_of Connection.connection_of Bandwidth.bandwidth_of Direction.direction_of Section.connection_in Section.rate_in Section.bandwidth_in Section.direction_in Section.line_in Section.closed Section.lacks Range.media_in Range.is_no_media Default.directed Default.spread Default.moved_from Default.moved Default.all_directed Default.unsaid_from Default.unsaid Requests.rate_among Requests.section_lines Requests.media_sections Requests.without_tias Bytes.front Bytes.all Bytes.is_empty Bytes.onto Bytes.split Bytes.starts_with Bytes.is_word Bytes.is_digit Bytes.decimal Parts.none_empty Parts.some_fields Parts.is_number
computing = tt
