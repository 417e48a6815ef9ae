-- The numbers of the faults of an opening.
use Rattle.std.specs.Prelude.{ℕ}
use Rattle.hc_publish.specs.declared.faults.OpenFault.{OpenFault}
use Rattle.hc_publish.specs.declared.faults.OpenFault.TheVariants.{TooManyDatagrams, Memory, NoSeat}

-- the numbers, in the order in which the faults are judged
abbrev pub open_fault_number : OpenFault → ℕ
open_fault_number (TooManyDatagrams task) = 1
open_fault_number Memory = 2
open_fault_number NoSeat = 3
