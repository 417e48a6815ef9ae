-- The numbers of the faults of an edit.
use Rattle.std.specs.Prelude.{ℕ}
use Rattle.hc_records.specs.declared.faults.EditFault.{EditFault}
use Rattle.hc_records.specs.declared.faults.EditFault.TheVariants.{UnknownAlias, AlreadyPresent, NotPresent, Mandatory, UnknownStation, Absent, NoSuchArea, NoSuchTask, UnknownPdo, RepeatedPdo, AreaTooBig, TooManyDatagrams, EpochsSpent, Memory, BadGroup, AliasTaken, StationTaken, VariableTaken, TooManyGroups, TooManySlaves}

-- the number of an edit's fault, from 1 to 14, and from 30 to 35 for a declared group's
abbrev pub edit_fault_number : EditFault → ℕ
edit_fault_number UnknownAlias = 1
edit_fault_number AlreadyPresent = 2
edit_fault_number NotPresent = 3
edit_fault_number Mandatory = 4
edit_fault_number UnknownStation = 5
edit_fault_number Absent = 6
edit_fault_number NoSuchArea = 7
edit_fault_number NoSuchTask = 8
edit_fault_number UnknownPdo = 9
edit_fault_number RepeatedPdo = 10
edit_fault_number AreaTooBig = 11
edit_fault_number (TooManyDatagrams task) = 12
edit_fault_number EpochsSpent = 13
edit_fault_number Memory = 14
edit_fault_number (BadGroup fault) = 30
edit_fault_number AliasTaken = 31
edit_fault_number StationTaken = 32
edit_fault_number VariableTaken = 33
edit_fault_number TooManyGroups = 34
edit_fault_number TooManySlaves = 35
