-- "`b=` in a media section: `AS:` (kbit/s, at most 4,294,967), `RS:` and `RR:` (bit/s, at most 4,294,967,295), 1 to 10 digits .. Other
-- modifiers .. are passed over." "`b=TIAS:` (RFC 3890, bit/s)", "7 also for TIAS, at most 4,294,967,295" (02, 7): read as RS is. "The reader of a
-- rate line therefore promises bit/s" (02, 7)
use Rattle.std.specs.Prelude.{Option, Some, None}
use Rattle.sdp.specs.declared.bandwidth.Rate.{Rate}
use Rattle.std.specs.Prelude.{ℕ, ◌*◌, List, cond, drop}
use Rattle.cursor.specs.Bytes.{starts_with, bytes}
use Rattle.cursor.specs.Parts.{on_whole}
use Rattle.sdp.specs.declared.bandwidth.Rate.TheVariants as rate

-- "at most 4,294,967", "at most 4,294,967,295"
abbrev pub most_as : ℕ
most_as = 4294967

abbrev pub most_rate : ℕ
most_rate = 4294967295

-- "Kilobit figures are turned to bit/s once, by 1,000."
abbrev pub in_bits : ℕ → ℕ
in_bits kilobits = kilobits * 1000

-- the value of a `b=` line
unfoldable pub bandwidth_of : List ℕ → Option Rate
bandwidth_of v =
    cond (starts_with (bytes "AS:") v) (on_whole 10 most_as (drop 3 v) None λ n. Some (rate.As (in_bits n)))
    (cond (starts_with (bytes "TIAS:") v) (on_whole 10 most_rate (drop 5 v) None λ n. Some (rate.Tias n))
    (cond (starts_with (bytes "RS:") v) (on_whole 10 most_rate (drop 3 v) None λ n. Some (rate.Rs n))
    (cond (starts_with (bytes "RR:") v) (on_whole 10 most_rate (drop 3 v) None λ n. Some (rate.Rr n))
    (Some rate.Other))))
