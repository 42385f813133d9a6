-- All definitions that a call on the book computes by, under one name. Assumes nothing.
use Rattle.flow.proofs.Computing as Flow
use Rattle.sdp.specs.Range as Sdp
use Rattle.book.specs.Sound as Sound
use Rattle.book.specs.Booking as Booking
use Rattle.book.specs.Look as Look
use Rattle.book.specs.Calls as Calls
use Rattle.book.specs.Model as Model
use Rattle.put.specs.Number as Number
use Rattle.statement.specs.Statement as Statement
use Rattle.book.specs.Serial as Serial
use Rattle.book.specs.Demand3 as Demand3

unfoldable pub computing : Unit {0}
unfolding Flow.computing Sdp.media_in Sdp.is_no_media Sound.offer_in Sound.is_sound Booking.up_to Booking.down_to Booking.rates_of Booking.above Look.wrapped Look.looked Calls.barred Calls.offer_said Calls.offer_step Calls.answer_books Calls.answer_said Calls.answer_step Calls.cancel_step Calls.close_step Calls.is_asked Calls.bearer_step Model.session_of Model.look Model.row_call Model.call_of Model.log Model.end Calls.statement_step Calls.statement_into Calls.statement_bytes Number.spell Statement.line Statement.kind_name Statement.component_line Statement.count_line Statement.component_lines Statement.statement_of Statement.written Statement.after Serial.serial_from Serial.serial Demand3.past_from Demand3.derived_from Demand3.sum_of_changes
computing = tt
