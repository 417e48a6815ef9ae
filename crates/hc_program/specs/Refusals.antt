-- The printed lines of faults.
use Rattle.std.specs.Prelude.{ℕ, List, ◌++◌, codes}
use Rattle.std.specs.Fmt.{decimal}
use Rattle.hc_events.specs.declared.faults.CoreFault.{CoreFault}
use Rattle.hc_events.specs.declared.faults.CoreFault.TheVariants as core
use Rattle.hc_events.specs.Faults.{core_fault_number}
use Rattle.hc_records.specs.declared.faults.ProjectFault.{ProjectFault}
use Rattle.hc_records.specs.declared.faults.ProjectFault.TheVariants as project
use Rattle.hc_records.specs.ProjectFault.{project_fault_number}

-- the name of a project's fault as it is printed, without its number
abbrev pub project_fault_name : ProjectFault → List ℕ
project_fault_name project.NotToml = codes "NotToml"
project_fault_name project.MissingField = codes "MissingField"
project_fault_name project.OutOfRange = codes "OutOfRange"
project_fault_name project.RepeatedAlias = codes "RepeatedAlias"
project_fault_name project.RepeatedStation = codes "RepeatedStation"
project_fault_name project.RepeatedSyncManager = codes "RepeatedSyncManager"
project_fault_name project.OverlappingAreas = codes "OverlappingAreas"
project_fault_name project.RepeatedVariable = codes "RepeatedVariable"
project_fault_name project.UnknownPdo = codes "UnknownPdo"
project_fault_name project.AreaTooBig = codes "AreaTooBig"
project_fault_name project.Memory = codes "Memory"
project_fault_name project.NotOneGroup = codes "NotOneGroup"

-- the number and the name of a project's fault, with a space between them, and a line feed
unfoldable pub project_fault_words : ProjectFault → List ℕ
project_fault_words fault = decimal (project_fault_number fault) ++ codes " " ++ project_fault_name fault ++ codes "\n"

-- the line of a text that is no project
abbrev pub project_fault_text : ProjectFault → List ℕ
project_fault_text fault = codes "project fault " ++ project_fault_words fault

-- the line of a document that declares no group
unfoldable pub declare_fault_text : ProjectFault → List ℕ
declare_fault_text fault = codes "declare fault " ++ project_fault_words fault

-- the name of a core's fault; the task or the number that it names follows
abbrev pub core_fault_name : CoreFault → List ℕ
core_fault_name core.UnknownAlias = codes "UnknownAlias"
core_fault_name core.AlreadyPresent = codes "AlreadyPresent"
core_fault_name core.NotPresent = codes "NotPresent"
core_fault_name core.Mandatory = codes "Mandatory"
core_fault_name core.UnknownStation = codes "UnknownStation"
core_fault_name core.Absent = codes "Absent"
core_fault_name core.NoSuchArea = codes "NoSuchArea"
core_fault_name core.NoSuchTask = codes "NoSuchTask"
core_fault_name core.UnknownPdo = codes "UnknownPdo"
core_fault_name core.RepeatedPdo = codes "RepeatedPdo"
core_fault_name core.AreaTooBig = codes "AreaTooBig"
core_fault_name (core.TooManyDatagrams task) = codes "TooManyDatagrams " ++ decimal task
core_fault_name core.EpochsSpent = codes "EpochsSpent"
core_fault_name core.StalePost = codes "StalePost"
core_fault_name core.PostLength = codes "PostLength"
core_fault_name (core.Unprogrammed owed) = codes "Unprogrammed " ++ decimal owed
core_fault_name core.NothingOwed = codes "NothingOwed"
core_fault_name core.SerialsSpent = codes "SerialsSpent"
core_fault_name core.Short = codes "Short"
core_fault_name core.NotEtherCat = codes "NotEtherCat"
core_fault_name core.BadType = codes "BadType"
core_fault_name core.BadLength = codes "BadLength"
core_fault_name core.Circulating = codes "Circulating"
core_fault_name core.MoreFollows = codes "MoreFollows"
core_fault_name core.UnknownCommand = codes "UnknownCommand"
core_fault_name core.IndexMismatch = codes "IndexMismatch"
core_fault_name core.Memory = codes "Memory"
core_fault_name (core.Room needed) = codes "Room " ++ decimal needed
core_fault_name (core.BadGroup fault) = codes "BadGroup " ++ decimal (project_fault_number fault)
core_fault_name core.AliasTaken = codes "AliasTaken"
core_fault_name core.StationTaken = codes "StationTaken"
core_fault_name core.VariableTaken = codes "VariableTaken"
core_fault_name core.TooManyGroups = codes "TooManyGroups"
core_fault_name core.TooManySlaves = codes "TooManySlaves"
core_fault_name (core.Waits task blocks outside) = codes "Waits " ++ decimal task ++ codes " " ++ decimal blocks ++ codes " " ++ decimal outside
core_fault_name core.UnderWay = codes "UnderWay"

-- the line of a refused command
unfoldable pub refusal_text : CoreFault → List ℕ
refusal_text fault =
    codes "refused " ++ decimal (core_fault_number fault) ++ codes " " ++ core_fault_name fault ++ codes "\n"

-- the printed line of an input line that is no command
unfoldable pub bad_command_text : ℕ → List ℕ
bad_command_text number = codes "line " ++ decimal number ++ codes ": bad command\n"
