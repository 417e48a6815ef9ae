-- The faults of the core: their numbers, and the faults below them that they stand for.
use Rattle.std.specs.Prelude.{ℕ}
use Rattle.hc_records.specs.declared.faults.EditFault.{EditFault}
use Rattle.hc_records.specs.declared.faults.EditFault.TheVariants as edit
use Rattle.hc_frames.specs.declared.reading.faults.FrameFault.{FrameFault}
use Rattle.hc_frames.specs.declared.reading.faults.FrameFault.TheVariants as frame
use Rattle.hc_events.specs.declared.faults.CoreFault.{CoreFault}
use Rattle.hc_events.specs.declared.faults.CoreFault.TheVariants.{UnknownAlias, AlreadyPresent, NotPresent, Mandatory, UnknownStation, Absent, NoSuchArea, NoSuchTask, UnknownPdo, RepeatedPdo, AreaTooBig, TooManyDatagrams, EpochsSpent, StalePost, PostLength, Unprogrammed, NothingOwed, SerialsSpent, Short, NotEtherCat, BadType, BadLength, Circulating, MoreFollows, UnknownCommand, IndexMismatch, Memory, Room, BadGroup, AliasTaken, StationTaken, VariableTaken, TooManyGroups, TooManySlaves, Waits, UnderWay}

-- 14 is the number of no fault: `Memory` has its own here
abbrev pub core_fault_number : CoreFault → ℕ
core_fault_number UnknownAlias = 1
core_fault_number AlreadyPresent = 2
core_fault_number NotPresent = 3
core_fault_number Mandatory = 4
core_fault_number UnknownStation = 5
core_fault_number Absent = 6
core_fault_number NoSuchArea = 7
core_fault_number NoSuchTask = 8
core_fault_number UnknownPdo = 9
core_fault_number RepeatedPdo = 10
core_fault_number AreaTooBig = 11
core_fault_number (TooManyDatagrams task) = 12
core_fault_number EpochsSpent = 13
core_fault_number StalePost = 15
core_fault_number PostLength = 16
core_fault_number (Unprogrammed owed) = 17
core_fault_number NothingOwed = 18
core_fault_number SerialsSpent = 19
core_fault_number Short = 20
core_fault_number NotEtherCat = 21
core_fault_number BadType = 22
core_fault_number BadLength = 23
core_fault_number Circulating = 24
core_fault_number MoreFollows = 25
core_fault_number UnknownCommand = 26
core_fault_number IndexMismatch = 27
core_fault_number Memory = 28
core_fault_number (Room needed) = 29
core_fault_number (BadGroup fault) = 30
core_fault_number AliasTaken = 31
core_fault_number StationTaken = 32
core_fault_number VariableTaken = 33
core_fault_number TooManyGroups = 34
core_fault_number TooManySlaves = 35
core_fault_number (Waits task blocks outside) = 36
core_fault_number UnderWay = 37

-- a refused edit is refused by the fault of the same name
abbrev pub edit_refusal : EditFault → CoreFault
edit_refusal edit.UnknownAlias = UnknownAlias
edit_refusal edit.AlreadyPresent = AlreadyPresent
edit_refusal edit.NotPresent = NotPresent
edit_refusal edit.Mandatory = Mandatory
edit_refusal edit.UnknownStation = UnknownStation
edit_refusal edit.Absent = Absent
edit_refusal edit.NoSuchArea = NoSuchArea
edit_refusal edit.NoSuchTask = NoSuchTask
edit_refusal edit.UnknownPdo = UnknownPdo
edit_refusal edit.RepeatedPdo = RepeatedPdo
edit_refusal edit.AreaTooBig = AreaTooBig
edit_refusal (edit.TooManyDatagrams task) = TooManyDatagrams task
edit_refusal edit.EpochsSpent = EpochsSpent
edit_refusal edit.Memory = Memory
edit_refusal (edit.BadGroup fault) = BadGroup fault
edit_refusal edit.AliasTaken = AliasTaken
edit_refusal edit.StationTaken = StationTaken
edit_refusal edit.VariableTaken = VariableTaken
edit_refusal edit.TooManyGroups = TooManyGroups
edit_refusal edit.TooManySlaves = TooManySlaves

-- the refusal of a frame that cannot be read
abbrev pub frame_refusal : FrameFault → CoreFault
frame_refusal frame.Short = Short
frame_refusal frame.NotEtherCat = NotEtherCat
frame_refusal frame.BadType = BadType
frame_refusal frame.BadLength = BadLength
frame_refusal frame.Circulating = Circulating
frame_refusal frame.MoreFollows = MoreFollows
frame_refusal frame.UnknownCommand = UnknownCommand
frame_refusal frame.IndexMismatch = IndexMismatch
