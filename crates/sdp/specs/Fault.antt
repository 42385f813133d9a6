-- The faults of a line, by the numbers of 01's table: 3 to 8.
use Rattle.std.specs.Prelude.{ℕ}
use Rattle.sdp.specs.declared.fault.Fault.{Fault}
use Rattle.sdp.specs.declared.fault.Fault.TheVariants as fault

abbrev pub fault_number : Fault → ℕ
fault_number fault.MediaLine = 3
fault_number fault.Transport = 4
fault_number fault.Ninth = 5
fault_number fault.Connection = 6
fault_number fault.Bandwidth = 7
fault_number fault.Direction = 8
