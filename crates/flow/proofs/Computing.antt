-- All definitions by which an exchange is computed from the bytes of its texts, under one name. Assumes nothing.
use Rattle.sdp.proofs.Computing as Sdp
use Rattle.sdp.specs.Range as SdpRange
use Rattle.flow.specs.Slots as Slots
use Rattle.flow.specs.Before as Before
use Rattle.flow.specs.Status as Status
use Rattle.flow.specs.Described as Described
use Rattle.flow.specs.Rates as Rates
use Rattle.flow.specs.Class as Class
use Rattle.flow.specs.Derive as Derive
use Rattle.flow.specs.Fit as Fit
use Rattle.flow.specs.Gates as Gates
use Rattle.flow.specs.Bearer as Bearer
use Rattle.flow.specs.Deciding as Deciding
use Rattle.flow.specs.Range as Range

unfoldable pub computing : Unit {0}
unfolding Sdp.computing SdpRange.media_in SdpRange.is_no_media Slots.through Slots.some Slots.every Slots.slots Slots.up_to_eight Before.bit Before.was_of Before.was_at Before.before_of Status.uplink Status.downlink Status.is_removed Status.one_way Status.status_of Status.status Described.stays_both Described.described_up Described.described_down Described.destination Described.media_to Described.rtcp_to Rates.requested Rates.twentieth Rates.figure Rates.media_rate Rates.larger Rates.rtcp_rate Rates.way_to Class.class_of Class.kept_class Derive.flows_of Derive.classed Derive.slot_of Derive.kept_after Derive.component_of Derive.derived Fit.misfits Fit.lowest Fit.fit_at Fit.fit_of Gates.gates_of Bearer.rest Bearer.named Bearer.over_named Bearer.at_most Bearer.smaller Bearer.authorised_up Bearer.authorised_down Bearer.authorised_class Bearer.some_live Bearer.accepted Bearer.authorised Deciding.deciding_spot Deciding.decision_of Deciding.decision Deciding.part_of Deciding.deciding_line Range.is_class Range.component_in Range.is_no_component Range.component_at Range.held_rates Range.held_in Range.media_at
computing = tt
