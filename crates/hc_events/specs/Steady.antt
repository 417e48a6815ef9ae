-- Which edits change a task, the epoch of the last one that did, and what a task reads since then (this project's profile).
use Rattle.std.specs.Prelude.{ℕ, ◌+◌, ◌==◌, ◌&&◌, ◌||◌, not, Bool, true, false, if◌then◌else◌, List, [], ◌∷◌, filter, fold, Option, Some, None, option_map}
use Rattle.std.specs.Option.{option_map_or}
use Rattle.std.specs.List.{list_any}
use Rattle.hc_records.specs.declared.edit.Edit.{Edit}
use Rattle.hc_records.specs.Image.{VariablePlace}
use Rattle.hc_records.specs.Line.{State, line}
use Rattle.hc_registers.specs.Blocks.{LineBlock, line_blocks, same_bytes}
use Rattle.hc_places.specs.declared.table.Datagram.{Datagram}
use Rattle.hc_places.specs.Swap.{changed_variables}
use Rattle.hc_places.specs.Table.{Table, TaskTable, place_in, table_of, task_table}
use Rattle.hc_events.specs.Entries.{History, Opened, Edited, Came}
use Rattle.hc_events.specs.Points.{epoch_of, state_of}
use Rattle.hc_events.specs.Images.{NewAnswer, is_for, new_answer_by}
use Rattle.hc_events.specs.Ready.{serves_task}

-- the tasks that an edit changes

-- two lists have equal elements, in order, by a test of two elements
abbrev pub same_lists : {X : Type 0} → (X → X → Bool) → List X → List X → Bool
same_lists same [] [] = true
same_lists same [] (y ∷ ys) = false
same_lists same (x ∷ xs) [] = false
same_lists same (x ∷ xs) (y ∷ ys) = same x y && same_lists same xs ys

-- two datagrams have the same address, length, expected working counter and offset
abbrev pub same_datagram : Datagram → Datagram → Bool
same_datagram a b = (a.address == b.address) && (a.length == b.length) && (a.expected == b.expected) && (a.offset == b.offset)

-- two tasks have the same datagrams, and as many bytes of outputs and of inputs
abbrev pub same_task : TaskTable → TaskTable → Bool
same_task a b = same_lists same_datagram a.datagrams b.datagrams && (a.outputs == b.outputs) && (a.inputs == b.inputs)

-- there is a place, and it is in the task
abbrev pub lies_in_task : ℕ → Option VariablePlace → Bool
lies_in_task task place = option_map_or (λ (found : VariablePlace). found.task == task) place false

-- the place of a variable differs between two tables, and one of the two is in the task
abbrev pub moves_variable : Table → Table → ℕ → Bool
moves_variable old new task =
    list_any (λ variable. lies_in_task task (place_in old variable) || lies_in_task task (place_in new variable)) (changed_variables old new)

-- the register blocks of the areas that a state's line has in a task, in line and block order
abbrev pub task_blocks : State → ℕ → List LineBlock
task_blocks state task = filter (serves_task state task) (line_blocks (line state))

-- two blocks have the same slave, the same number, the same register and the same bytes
abbrev pub same_line_block : LineBlock → LineBlock → Bool
same_line_block a b = (a.station == b.station) && (a.number == b.number) && same_bytes a.block b.block

-- between two states a task differs: one of its datagrams, its bytes of outputs or inputs, the place of one of its variables, or a register block of one of its areas
abbrev pub changes_task : State → State → ℕ → Bool
changes_task old new task =
    not (same_task (task_table (line old) task) (task_table (line new) task))
    || moves_variable (table_of (line old)) (table_of (line new)) task
    || not (same_lists same_line_block (task_blocks old task) (task_blocks new task))

-- an edit changes a task
abbrev pub edit_changes : History → Edit → ℕ → Bool
edit_changes history edit task = changes_task (state_of history) (state_of (Edited edit ∷ history)) task

-- the epoch of the last accepted edit that changed the task; 0 if none did
abbrev pub task_epoch : History → ℕ → ℕ
task_epoch [] task = 0
task_epoch (Opened groups ∷ history) task = 0
task_epoch (Edited edit ∷ history) task = if edit_changes history edit task then epoch_of history + 1 else task_epoch history task
task_epoch (entry ∷ history) task = task_epoch history task

-- the data that a task reads over edits that do not change it

-- the data of a good answer, with the serial of the sending that it answered and the epoch in which it came
pub record SteadyData : Type 0 where
  pub bytes : List ℕ
  pub serial : ℕ
  pub epoch : ℕ

-- the data of a datagram once a good answer came in an epoch to the sending with a serial: those of the answer if it is of this
-- datagram, otherwise those of before, if any
abbrev pub steadied : ℕ → ℕ → ℕ → ℕ → Option SteadyData → NewAnswer → Option SteadyData
steadied serial epoch task d before good = if is_for task d good then Some (record { bytes = good.bytes; serial = serial; epoch = epoch }) else before

-- the data of a datagram's last good answer since the last accepted edit that changed its task, or none
abbrev pub steady_data : History → ℕ → ℕ → Option SteadyData
steady_data [] task d = None
steady_data (Opened groups ∷ history) task d = None
steady_data (Edited edit ∷ history) task d = if edit_changes history edit task then None else steady_data history task d
steady_data (Came arrival ∷ history) task d = fold (steadied arrival.serial (epoch_of history) task d) (steady_data history task d) (new_answer_by history arrival)
steady_data (entry ∷ history) task d = steady_data history task d

-- the bytes of a datagram's steady data (`steady_data`), or none
abbrev pub steady_slot : History → ℕ → ℕ → Option (List ℕ)
steady_slot history task d = option_map (λ (found : SteadyData). found.bytes) (steady_data history task d)

-- the serial of the sending whose answer brought a datagram's steady data, or none
abbrev pub steady_serial : History → ℕ → ℕ → Option ℕ
steady_serial history task d = option_map (λ (found : SteadyData). found.serial) (steady_data history task d)

-- the epoch in which the answer with a datagram's steady data came, or none
abbrev pub steady_epoch : History → ℕ → ℕ → Option ℕ
steady_epoch history task d = option_map (λ (found : SteadyData). found.epoch) (steady_data history task d)
