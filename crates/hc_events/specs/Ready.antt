-- Which tasks an owed register block concerns, and which a register of a slave outside the line, so which tasks can be sent while blocks are owed (this project's profile; FMMUs by ETG.1000.4, 6.6).
use Rattle.std.specs.Prelude.{ℕ, ◌+◌, ◌*◌, ◌/◌, ◌%◌, ◌==◌, ◌&&◌, ◌||◌, not, nat_lt, Bool, false, if◌then◌else◌, List, [], ◌∷◌, ◌++◌, filter, fold, length, map, slice_get, slice_index, Option}
use Rattle.std.specs.Option.{option_map_or}
use Rattle.std.specs.List.{flat_map, list_any, range_with_len}
use Rattle.hc_bits.specs.Bits.{number_of}
use Rattle.hc_records.specs.declared.records.Area.{Area}
use Rattle.hc_records.specs.declared.records.Declared.{Declared}
use Rattle.hc_records.specs.declared.records.Slave.{Slave}
use Rattle.hc_records.specs.declared.edit.Edit.{Edit}
use Rattle.hc_records.specs.Area.{width}
use Rattle.hc_records.specs.Edits.{area_at}
use Rattle.hc_records.specs.Image.{tasks}
use Rattle.hc_records.specs.Line.{Member, State}
use Rattle.hc_registers.specs.declared.registers.TheConstants.{FMMU_BLOCK_BYTES}
use Rattle.hc_registers.specs.Blocks.{LineBlock}
use Rattle.hc_registers.specs.Fields.{long_at}
use Rattle.hc_events.specs.Entries.{History, Edited, Forgot, Cleared}
use Rattle.hc_events.specs.Points.{line_of, state_of}
use Rattle.hc_events.specs.Owed.{is_in_line, owed_blocks}
use Rattle.hc_events.specs.Holding.{MayHold, comes, is_unplugged, may_hold}

-- bytes and tasks

-- the bytes are those of an active FMMU that begins in a task's logical addresses
abbrev pub names_task : ℕ → List ℕ → Bool
names_task task bytes = (length bytes == FMMU_BLOCK_BYTES) && (slice_index bytes 12 == 1) && (long_at bytes 0 / 0x01000000 == task + 1)

-- the area is in a task: an area of 0 bits is in none
abbrev pub is_in_task : ℕ → Area → Bool
is_in_task task area = (area.task == task) && nat_lt 0 (width area)

-- of a slave's blocks the ones with odd numbers are FMMUs', the others sync managers'; those of the area with an index are 2 × index and the one after it
abbrev pub is_fmmu : ℕ → Bool
is_fmmu number = number % 2 == 1

-- the index of the area whose sync manager or FMMU has a block's number
abbrev pub area_index : ℕ → ℕ
area_index number = number / 2

-- the block is one of an area that the line has in the task: its sync manager's, or its FMMU's
abbrev pub serves_task : State → ℕ → LineBlock → Bool
serves_task state task block = option_map_or (is_in_task task) (area_at state block.station (area_index block.number)) false

-- one of the contents that a register may have names the task
abbrev pub names_among : ℕ → MayHold → Bool
names_among task held = list_any (names_task task) held.contents

-- the register of the block with a number is an FMMU's, and a content that it may have names the task; an unknown register may name any task
abbrev pub may_name : ℕ → ℕ → MayHold → Bool
may_name task number held = is_fmmu number && (held.unknown || names_among task held)

-- in the line

-- an owed block concerns the task of its area, and each task that its register may name
abbrev pub concerns : History → ℕ → LineBlock → Bool
concerns history task block = serves_task (state_of history) task block || may_name task block.number (may_hold history block.station block.number)

-- the owed blocks that a task waits for, in line and block order
abbrev pub waited_for : History → ℕ → List LineBlock
waited_for history task = filter (concerns history task) (owed_blocks history)

-- outside the line

-- the slaves of a declared group that is not in the line
abbrev pub absent_slaves : Declared → List Slave
absent_slaves declared = if declared.present then [] else declared.group.slaves

-- the declared slaves outside the line, in declared order
abbrev pub slaves_outside : State → List Slave
slaves_outside state = flat_map absent_slaves state.groups

-- the FMMU registers of a slave's areas, in record order: each by the slave's station address and the number of its block
abbrev pub fmmu_registers : Slave → List (ℕ × ℕ)
fmmu_registers slave = map (λ (index : ℕ). (slave.station, 2 * index + 1)) (range_with_len 0 (length slave.areas))

-- the FMMU registers of the slaves outside the line, in declared order
abbrev pub registers_outside : State → List (ℕ × ℕ)
registers_outside state = flat_map fmmu_registers (slaves_outside state)

-- a register of a slave outside the line concerns each task that one of its contents names, unless the slave is unplugged
abbrev pub concerns_outside : History → ℕ → ℕ × ℕ → Bool
concerns_outside history task register = not (is_unplugged history register.0) && names_among task (may_hold history register.0 register.1)

-- the registers outside the line that a task waits for, in declared order
abbrev pub waited_for_outside : History → ℕ → List (ℕ × ℕ)
waited_for_outside history task = filter (concerns_outside history task) (registers_outside (state_of history))

-- tasks

-- a task is ready if it waits for nothing
abbrev pub is_ready : History → ℕ → Bool
is_ready history task = (length (waited_for history task) == 0) && (length (waited_for_outside history task) == 0)

-- the ready tasks, in order
abbrev pub ready_tasks : History → List ℕ
ready_tasks history = filter (is_ready history) tasks

-- tasks as a number: bit t is 1 if task t passes the test
abbrev pub mask_of : (ℕ → Bool) → ℕ
mask_of test = number_of (map (λ (task : ℕ). if test task then 1 else 0) tasks)

-- the ready tasks as a number: bit t is 1 if task t is ready
abbrev pub ready_mask : History → ℕ
ready_mask history = mask_of (is_ready history)

-- the tasks that wait as a number: bit t is 1 if task t is not ready
abbrev pub waiting_mask : History → ℕ
waiting_mask history = mask_of (λ task. not (is_ready history task))

-- slaves

-- a slave of the line holds up a task that waits for one of its blocks
abbrev pub holds_up : History → ℕ → Member → Bool
holds_up history task member = list_any (λ (block : LineBlock). block.station == member.slave.station) (waited_for history task)

-- a slave outside the line holds up a task that waits for one of its registers
abbrev pub holds_up_outside : History → ℕ → Slave → Bool
holds_up_outside history task slave = list_any (λ (register : ℕ × ℕ). register.0 == slave.station) (waited_for_outside history task)

-- the slaves that hold a task up, by their station addresses: first those of the line, in line order, then those outside it, in declared order
abbrev pub holders : History → ℕ → List ℕ
holders history task =
    map (λ (member : Member). member.slave.station) (filter (holds_up history task) (line_of history))
    ++ map (λ (slave : Slave). slave.station) (filter (holds_up_outside history task) (slaves_outside (state_of history)))

-- the slave with an index, counted from 0, among those that hold a task up (`holders`); none if there are fewer
abbrev pub held_by : History → ℕ → ℕ → Option ℕ
held_by history task n = slice_get (holders history task) n

-- edits

-- the record after a slave was cleared: if it is in the line its registers are forgotten too, since zeros are not what the line
-- configures
abbrev pub with_cleared : History → ℕ → History
with_cleared history station = if is_in_line history station then Cleared station ∷ Forgot station ∷ history else Cleared station ∷ history

-- the slaves that an edit brings into the line, by their station addresses, in line order
abbrev pub comers : History → Edit → List ℕ
comers history edit = filter (comes history edit) (map (λ (member : Member). member.slave.station) (line_of (Edited edit ∷ history)))

-- the record after an edit once each slave that came is cleared
abbrev pub edited_and_cleared : History → Edit → History
edited_and_cleared history edit = fold with_cleared (Edited edit ∷ history) (comers history edit)

-- the tasks that wait after an edit once each slave that came is cleared, as a number
abbrev pub waiting_after : History → Edit → ℕ
waiting_after history edit = waiting_mask (edited_and_cleared history edit)
