-- The numbers of the faults of a project.
use Rattle.std.specs.Prelude.{ℕ}
use Rattle.hc_records.specs.declared.faults.ProjectFault.{ProjectFault}
use Rattle.hc_records.specs.declared.faults.ProjectFault.TheVariants.{NotToml, MissingField, OutOfRange, RepeatedAlias, RepeatedStation, RepeatedSyncManager, OverlappingAreas, RepeatedVariable, UnknownPdo, AreaTooBig, Memory, NotOneGroup}

-- the number of a project's fault, or of a group's, from 1 to 12
abbrev pub project_fault_number : ProjectFault → ℕ
project_fault_number NotToml = 1
project_fault_number MissingField = 2
project_fault_number OutOfRange = 3
project_fault_number RepeatedAlias = 4
project_fault_number RepeatedStation = 5
project_fault_number RepeatedSyncManager = 6
project_fault_number OverlappingAreas = 7
project_fault_number RepeatedVariable = 8
project_fault_number UnknownPdo = 9
project_fault_number AreaTooBig = 10
project_fault_number Memory = 11
project_fault_number NotOneGroup = 12
