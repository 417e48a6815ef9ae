-- The tasks that can be sent while blocks are owed, by the known bytes of the line's blocks and by the bytes that the FMMUs'
-- registers may hold; and the state of each area for it.
use Rattle.std.specs.Prelude.{ℕ, ◌+◌, ◌*◌, ◌/◌, ◌%◌, ◌==◌, ◌&&◌, ◌||◌, not, nat_lt, is_some, Bool, true, false, if◌then◌else◌, List, filter, length, map, slice_get, slice_index_or, Option, Some, None, option_and_then}
use Rattle.std.specs.Option.{option_map_or}
use Rattle.std.specs.List.{range_with_len}
use Rattle.hc_records.specs.declared.records.Slave.{Slave}
use Rattle.hc_records.specs.Line.{State, groups_of}
use Rattle.hc_records.specs.Project.{slaves_of}
use Rattle.hc_registers.specs.Blocks.{LineBlock}
use Rattle.hc_registers.specs.RankPlaces.{places, stations}
use Rattle.hc_events.specs.Holding.{MayHold, unknown_register}
use Rattle.hc_events.specs.Ready.{may_name, names_among, names_task, registers_outside, serves_task}
use Rattle.hc_owed.specs.declared.area.JudgedArea.{JudgedArea}
use Rattle.hc_owed.specs.declared.area.OwedPair.TheVariants.{Neither}
use Rattle.hc_owed.specs.declared.area.RegisterStatus.{RegisterStatus}
use Rattle.hc_owed.specs.declared.area.RegisterStatus.TheVariants.{Unplugged, Outside, Unknown, Sure}
use Rattle.hc_owed.specs.declared.task_set.TaskSet.{TaskSet}
use Rattle.hc_owed.specs.Areas.{pair_of}
use Rattle.hc_owed.specs.Laws.{lacking_blocks}
use Rattle.hc_owed.specs.RegisterState.{Knowledge, owed_in}
use Rattle.hc_owed.specs.TaskSets.{no_task, some_task, tasks_where}

-- the bytes that registers may hold, by the station address of the slave and the number of the block
abbrev pub Holdings : Type 0
Holdings = ℕ → ℕ → MayHold

-- every register is unknown and has no contents, as at the opening of a project
abbrev pub unknown_registers : Holdings
unknown_registers station number = unknown_register

-- no slave is unplugged, as at the opening of a project
abbrev pub none_unplugged : ℕ → Bool
none_unplugged station = false

-- ready tasks

-- an owed block concerns the task of its area, and each task that its register may name
abbrev pub block_concerns : Holdings → State → ℕ → LineBlock → Bool
block_concerns held state task block = serves_task state task block || may_name task block.number (held block.station block.number)

-- the owed blocks that a task waits for, in line and block order
abbrev pub blocks_waited_for : Knowledge → Holdings → State → ℕ → List LineBlock
blocks_waited_for known held state task = filter (block_concerns held state task) (lacking_blocks known state)

-- a register of a slave outside the line concerns each task that one of its contents names, unless the slave is unplugged
abbrev pub counts_outside : Holdings → (ℕ → Bool) → ℕ → ℕ × ℕ → Bool
counts_outside held unplugged task register = not (unplugged register.0) && names_among task (held register.0 register.1)

-- the registers outside the line that a task waits for, in declared order
abbrev pub registers_waited_for : Holdings → (ℕ → Bool) → State → ℕ → List (ℕ × ℕ)
registers_waited_for held unplugged state task = filter (counts_outside held unplugged task) (registers_outside state)

-- a task is ready if it waits for nothing
abbrev pub may_be_sent : Knowledge → Holdings → (ℕ → Bool) → State → ℕ → Bool
may_be_sent known held unplugged state task = (length (blocks_waited_for known held state task) == 0) && (length (registers_waited_for held unplugged state task) == 0)

-- the state of the areas

-- the block at a place, if there is one
abbrev pub slot : State → ℕ → Option LineBlock
slot state n = slice_index_or (places state) n None

-- areas are counted by place, eight for each declared slave by rank; the slave that has the area with an index, if it has so many
abbrev pub area_slave : State → ℕ → Option Slave
area_slave state n =
    option_and_then (λ slave. if nat_lt (n % 8) (length slave.areas) then Some slave else None) (slice_get (slaves_of (groups_of state.groups)) (n / 8))

-- the number of an area's FMMU's block
abbrev pub fmmu_at : ℕ → ℕ
fmmu_at n = 2 * (n % 8) + 1

-- the task that an FMMU's block of the line names, if there is a block and it names one
abbrev pub own_set : Option LineBlock → TaskSet
own_set fmmu = tasks_where (λ task. option_map_or (λ block. names_task task block.block.bytes) fmmu false)

-- the tasks that the contents of a register name
abbrev pub held_set : MayHold → TaskSet
held_set held = tasks_where (λ task. names_among task held)

-- the status of a register: its slave is in the line or not, it is unknown or not, and it names a task while its slave is unplugged or not
abbrev pub standing_of : Bool → Bool → Bool → RegisterStatus
standing_of true true apart = Unknown
standing_of true false apart = Sure
standing_of false unknown true = Unplugged
standing_of false unknown false = Outside

-- the state of an area with these two blocks in the line, or without a block
abbrev pub kept_area : Knowledge → Option LineBlock → Option LineBlock → MayHold → Bool → JudgedArea
kept_area known sync_manager fmmu held unplugged = record {
  own = own_set fmmu;
  held = held_set held;
  owed = pair_of (owed_in known sync_manager) (owed_in known fmmu);
  standing = standing_of (is_some fmmu) held.unknown (unplugged && some_task (held_set held));
}

-- the state of an area that a slave does not have
abbrev pub no_area : JudgedArea
no_area = record { own = no_task; held = no_task; owed = Neither; standing = Outside }

-- the state of the area with an index
abbrev pub judged_at : Knowledge → Holdings → (ℕ → Bool) → State → ℕ → JudgedArea
judged_at known held unplugged state n =
    option_map_or (λ slave. kept_area known (slot state (2 * n)) (slot state (2 * n + 1)) (held slave.station (fmmu_at n)) (unplugged slave.station)) (area_slave state n) no_area

-- the state of all areas of the declared slaves
abbrev pub readiness_of : Knowledge → Holdings → (ℕ → Bool) → State → List JudgedArea
readiness_of known held unplugged state = map (judged_at known held unplugged state) (range_with_len 0 (8 * length (stations state)))
