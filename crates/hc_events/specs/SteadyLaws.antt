-- Laws of tasks over edits that do not change them. Each law is the contract of a function of `laws`.
use Rattle.std.specs.Prelude.{◌≡◌, ◌↔◌, ℕ, ◌<◌, ◌≤◌, ◌⊎◌, false, true, List, ◌∷◌, filter, length, map, Some, None}
use Rattle.std.specs.List.{enumerate_from, flat_map}
use Rattle.hc_records.specs.declared.edit.Edit.{Edit}
use Rattle.hc_records.specs.declared.limits.TheConstants.{TASKS}
use Rattle.hc_records.specs.Edits.{over_limit_task}
use Rattle.hc_records.specs.Image.{output_length, task_places}
use Rattle.hc_records.specs.declared.records.Area.{Area}
use Rattle.hc_records.specs.Line.{Member, groups_of}
use Rattle.hc_records.specs.Project.{lowest_fault}
use Rattle.hc_places.specs.Table.{place_in, table_of, task_table}
use Rattle.hc_events.specs.declared.answer.Answer.TheVariants as answer
use Rattle.hc_events.specs.declared.faults.CoreFault.TheVariants.{StalePost}
use Rattle.hc_events.specs.Ages.{data_serial}
use Rattle.hc_events.specs.Entries.{History, Edited}
use Rattle.hc_events.specs.Images.{slot_of}
use Rattle.hc_events.specs.Outputs.{sent_data}
use Rattle.hc_events.specs.Points.{epoch_of, line_of, state_of}
use Rattle.hc_events.specs.Ready.{edited_and_cleared, is_in_task, is_ready}
use Rattle.hc_events.specs.Sendings.{line_data_length}
use Rattle.hc_events.specs.Steady.{SteadyData, edit_changes, lies_in_task, steady_data, task_blocks, task_epoch}
use Rattle.hc_events.specs.Steps.{Posts, PostsSteady, answer_to, edit_refused, entries_after}
use Rattle.hc_events.specs.Accepted.{IsReachable}

-- a task's epoch is at most the epoch
abbrev pub TaskEpochsAreBounded : Type 0
TaskEpochsAreBounded = (history : History) (task : ℕ) → task_epoch history task ≤ epoch_of history

-- an edit that changes a task makes its epoch the task's, and leaves it no data; any other edit leaves both
pub record MovesTaskEpoch (history : History) (edit : Edit) (task : ℕ) : Type 0 where
  pub raised : edit_changes history edit task ≡ true → task_epoch (Edited edit ∷ history) task ≡ epoch_of (Edited edit ∷ history)
  pub no_data : (d : ℕ) → edit_changes history edit task ≡ true → steady_data (Edited edit ∷ history) task d ≡ None
  pub left : edit_changes history edit task ≡ false → task_epoch (Edited edit ∷ history) task ≡ task_epoch history task
  pub same_data : (d : ℕ) → edit_changes history edit task ≡ false → steady_data (Edited edit ∷ history) task d ≡ steady_data history task d

-- `MovesTaskEpoch` holds for each edit and each task
abbrev pub EditsMoveTaskEpochs : Type 0
EditsMoveTaskEpochs = (history : History) (edit : Edit) (task : ℕ) → MovesTaskEpoch history edit task

-- an edit that leaves the line changes no task: a remap or a move to what there is, and a group that is declared
abbrev pub SameLinesChangeNoTask : Type 0
SameLinesChangeNoTask =
    (history : History) (edit : Edit) (task : ℕ) → line_of (Edited edit ∷ history) ≡ line_of history → edit_changes history edit task ≡ false

-- the data that a task reads of a datagram are its steady data: the same bytes with the same serial, whose answer came in the present epoch
pub record AreSteady (history : History) (task d : ℕ) (bytes : List ℕ) : Type 0 where
  pub serial : ℕ
  pub date : data_serial history task d ≡ Some serial
  pub steady : steady_data history task d ≡ Some (record { bytes = bytes; serial = serial; epoch = epoch_of history })

-- `AreSteady` holds for all data that a task reads
abbrev pub SlotsAreSteady : Type 0
SlotsAreSteady = (history : History) (task d : ℕ) (bytes : List ℕ) → slot_of history task d ≡ Some bytes → AreSteady history task d bytes

-- steady data whose answer came in the present epoch are those that the task reads
abbrev pub SteadyDataOfTheEpochAreSlots : Type 0
SteadyDataOfTheEpochAreSlots =
    (history : History) (task d : ℕ) (found : SteadyData) → steady_data history task d ≡ Some found → found.epoch ≡ epoch_of history
    → slot_of history task d ≡ Some found.bytes

-- steady data came after the edit that changed the task last, and have the length that the datagram has in the present line
pub record FitsSteadily (history : History) (task d : ℕ) (found : SteadyData) : Type 0 where
  pub from : task_epoch history task ≤ found.epoch
  pub most : found.epoch ≤ epoch_of history
  pub size : length found.bytes ≡ line_data_length (line_of history) (task, d)

-- `FitsSteadily` holds for all steady data
abbrev pub SteadyDataFit : Type 0
SteadyDataFit = (history : History) (task d : ℕ) (found : SteadyData) → steady_data history task d ≡ Some found → FitsSteadily history task d found

-- the condition of a steady post: there is the task, the epoch is from the last edit that changed the task to the present one,
-- and the bytes are as many as the task has outputs
pub record IsSteadyPost (history : History) (task epoch : ℕ) (bytes : List ℕ) : Type 0 where
  pub there : task < TASKS
  pub from : task_epoch history task ≤ epoch
  pub most : epoch ≤ epoch_of history
  pub size : length bytes ≡ output_length (task_places task (line_of history))

-- a steady post is accepted exactly if it meets the condition `IsSteadyPost`
abbrev pub SteadyPostsAreAccepted : Type 0
SteadyPostsAreAccepted =
    (history : History) (task epoch : ℕ) (bytes : List ℕ) → (answer_to history (PostsSteady task epoch bytes) ≡ answer.Posted) ↔ IsSteadyPost history task epoch bytes

-- a steady post of a task is refused with `StalePost` exactly if its epoch is below the one of the last edit that changed the
-- task, or above the present one
abbrev pub SteadyPostsAreStale : Type 0
SteadyPostsAreStale =
    (history : History) (task epoch : ℕ) (bytes : List ℕ) → task < TASKS
    → (answer_to history (PostsSteady task epoch bytes) ≡ answer.Refused StalePost) ↔ ((epoch < task_epoch history task) ⊎ (epoch_of history < epoch))

-- a steady post has the answer of the post with the same task, epoch and bytes, and leads to the same record
pub record IsAnsweredAsPost (history : History) (task epoch : ℕ) (bytes : List ℕ) : Type 0 where
  pub answer : answer_to history (PostsSteady task epoch bytes) ≡ answer_to history (Posts task epoch bytes)
  pub entries : entries_after history (PostsSteady task epoch bytes) ≡ entries_after history (Posts task epoch bytes)

-- each steady post of the present epoch is answered as the post is
abbrev pub PostsOfTheEpochAreAlike : Type 0
PostsOfTheEpochAreAlike = (history : History) (task : ℕ) (bytes : List ℕ) → IsAnsweredAsPost history task (epoch_of history) bytes

-- a steady post is answered as the post is if the post is accepted
abbrev pub AcceptedPostsAreSteady : Type 0
AcceptedPostsAreSteady =
    (history : History) (task epoch : ℕ) (bytes : List ℕ) → answer_to history (Posts task epoch bytes) ≡ answer.Posted → IsAnsweredAsPost history task epoch bytes

-- an edit leaves a task undisturbed: its datagrams, the places of its variables, the register blocks of its areas, its epoch, the data that each of its datagrams would be sent with, and its steady data are those of before; each
-- steady post that would have been accepted for it before is accepted after; and if it was ready it is ready once each slave that came is cleared
pub record IsUndisturbed (history : History) (edit : Edit) (task : ℕ) : Type 0 where
  pub table : task_table (line_of (Edited edit ∷ history)) task ≡ task_table (line_of history) task
  pub places :
      (variable : ℕ)
      → (lies_in_task task (place_in (table_of (line_of history)) variable) ≡ true) ⊎ (lies_in_task task (place_in (table_of (line_of (Edited edit ∷ history))) variable) ≡ true)
      → place_in (table_of (line_of (Edited edit ∷ history))) variable ≡ place_in (table_of (line_of history)) variable
  pub blocks : task_blocks (state_of (Edited edit ∷ history)) task ≡ task_blocks (state_of history) task
  pub epoch : task_epoch (Edited edit ∷ history) task ≡ task_epoch history task
  pub data_sent : (d : ℕ) → sent_data (Edited edit ∷ history) task d ≡ sent_data history task d
  pub steady : (d : ℕ) → steady_data (Edited edit ∷ history) task d ≡ steady_data history task d
  pub posts :
      (epoch : ℕ) (bytes : List ℕ) → answer_to history (PostsSteady task epoch bytes) ≡ answer.Posted
      → answer_to (Edited edit ∷ history) (PostsSteady task epoch bytes) ≡ answer.Posted
  pub ready : is_ready history task ≡ true → is_ready (edited_and_cleared history edit) task ≡ true

-- each accepted edit that does not change a task leaves it undisturbed, in a project before the edit and after it
abbrev pub UnchangedTasksAreUndisturbed : Type 0
UnchangedTasksAreUndisturbed =
    (history : History) (edit : Edit) (task : ℕ) → IsReachable history → task < TASKS
    → lowest_fault (groups_of (state_of history).groups) ≡ None → over_limit_task (line_of history) ≡ None
    → lowest_fault (groups_of (state_of (Edited edit ∷ history)).groups) ≡ None → edit_refused history edit ≡ None
    → edit_changes history edit task ≡ false → IsUndisturbed history edit task

-- the areas that a slave has in a task, in record order: each with its slave's station address and rank, and its index
abbrev pub member_areas : ℕ → Member → List (ℕ × (ℕ × (ℕ × Area)))
member_areas task member =
    map (λ (e : ℕ × Area). (member.slave.station, (member.rank, e))) (filter (λ (e : ℕ × Area). is_in_task task e.1) (enumerate_from 0 member.slave.areas))

-- the areas that a line has in a task, in line order (`member_areas`)
abbrev pub areas_in_task : ℕ → List Member → List (ℕ × (ℕ × (ℕ × Area)))
areas_in_task task line = flat_map (member_areas task) line

-- in a project an edit that leaves the areas of a task, each in the same slave, does not change the task. Such an edit concerns
-- a group, an area or a variable of other tasks
abbrev pub EditsOfOthersChangeNoTask : Type 0
EditsOfOthersChangeNoTask =
    (history : History) (edit : Edit) (task : ℕ) → task < TASKS
    → lowest_fault (groups_of (state_of history).groups) ≡ None → lowest_fault (groups_of (state_of (Edited edit ∷ history)).groups) ≡ None
    → areas_in_task task (line_of (Edited edit ∷ history)) ≡ areas_in_task task (line_of history) → edit_changes history edit task ≡ false
