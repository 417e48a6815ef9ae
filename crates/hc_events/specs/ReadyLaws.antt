-- Laws of ready tasks, and of the bytes that registers may hold. Each law is the contract of a function of `laws`.
use Rattle.std.specs.Prelude.{◌≡◌, ◌↔◌, ℕ, ◌<◌, ◌==◌, not, Bool, false, true, if◌then◌else◌, All, Contains, IsNone, List, [], ◌∷◌, ◌++◌, map, None, Some}
use Rattle.std.specs.List.{list_all, list_any}
use Rattle.std.specs.Int.{bit_at}
use Rattle.hc_records.specs.declared.edit.Edit.{Edit}
use Rattle.hc_records.specs.declared.limits.TheConstants.{TASKS}
use Rattle.hc_records.specs.Edits.{over_limit_task}
use Rattle.hc_records.specs.Line.{State, groups_of, line}
use Rattle.hc_records.specs.Lists.{lowest}
use Rattle.hc_records.specs.Project.{lowest_fault}
use Rattle.hc_registers.specs.Blocks.{LineBlock, line_blocks}
use Rattle.hc_events.specs.declared.answer.Answer.TheVariants as answer
use Rattle.hc_events.specs.Entries.{HistoryEntry, History, Opened, Edited, Forgot, Cleared, Unplugged}
use Rattle.hc_events.specs.Points.{line_of, state_of}
use Rattle.hc_events.specs.Steady.{task_blocks}
use Rattle.hc_events.specs.Holding.{is_unplugged, may_hold}
use Rattle.hc_events.specs.Owed.{is_in_line, known_bytes, owed_blocks}
use Rattle.hc_events.specs.Ready.{concerns, edited_and_cleared, holders, is_fmmu, is_ready, mask_of, names_among, names_task, registers_outside, serves_task, waited_for_outside}
use Rattle.hc_events.specs.Steps.{SendsReady, SendsTasks, answer_to, edit_refused, entries_after, proposal, ready_faults, sent_text}
use Rattle.hc_events.specs.Accepted.{IsReachable}
use Rattle.hc_events.specs.SendingLaws.{IsFound}

-- a task is ready if nothing is owed and no register outside the line concerns it
abbrev pub ReadyWhereNothingIsOwed : Type 0
ReadyWhereNothingIsOwed = (history : History) (task : ℕ) → owed_blocks history ≡ [] → waited_for_outside history task ≡ [] → is_ready history task ≡ true

-- both events that send tasks have the same answer, and leave the same record
pub record AreSentAlike (history : History) (tasks : List ℕ) : Type 0 where
  pub answers : answer_to history (SendsReady tasks) ≡ answer_to history (SendsTasks tasks)
  pub entries : entries_after history (SendsReady tasks) ≡ entries_after history (SendsTasks tasks)

-- `AreSentAlike` holds if nothing is owed and no register outside the line concerns one of the tasks
abbrev pub BothEventsSendAlike : Type 0
BothEventsSendAlike =
    (history : History) (tasks : List ℕ) → owed_blocks history ≡ [] → All (λ (task : ℕ). waited_for_outside history task ≡ []) tasks
    → AreSentAlike history tasks

-- after an accepted sending of ready tasks the answer has the texts of the proposal's frames, and each of these is the sending with its own serial
pub record AreReadySent (history : History) (tasks : List ℕ) : Type 0 where
  pub answer : answer_to history (SendsReady tasks) ≡ answer.Sent (map (sent_text history) (proposal history tasks))
  pub found : All (IsFound history (entries_after history (SendsReady tasks))) (proposal history tasks)

-- `AreReadySent` holds for every sending of ready tasks that has no fault
abbrev pub ReadyFramesAreFound : Type 0
ReadyFramesAreFound = (history : History) (tasks : List ℕ) → IsNone (lowest (ready_faults history tasks)) → AreReadySent history tasks

-- the bytes that a slave of the line is known to have in a block are all that its register may hold
abbrev pub KnownIsHeld : Type 0
KnownIsHeld =
    (history : History) (station number : ℕ) (bytes : List ℕ) → IsReachable history → is_in_line history station ≡ true
    → known_bytes history station number ≡ Some bytes → may_hold history station number ≡ record { unknown = false; contents = bytes ∷ [] }

-- an FMMU's block of a project's line names no task but the one that it serves
abbrev pub NamedTasksAreServed : Type 0
NamedTasksAreServed =
    (state : State) (block : LineBlock) (task : ℕ) → lowest_fault (groups_of state.groups) ≡ None → over_limit_task (line state) ≡ None
    → Contains (line_blocks (line state)) block → is_fmmu block.number ≡ true → names_task task block.block.bytes ≡ true → serves_task state task block ≡ true

-- a ready task stays ready through an accepted edit that leaves the register blocks of its areas, once each slave that came is cleared: in a project, before the edit and after it
abbrev pub UntouchedStaysReady : Type 0
UntouchedStaysReady =
    (history : History) (edit : Edit) (task : ℕ) → IsReachable history
    → lowest_fault (groups_of (state_of history).groups) ≡ None → over_limit_task (line_of history) ≡ None
    → lowest_fault (groups_of (state_of (Edited edit ∷ history)).groups) ≡ None → edit_refused history edit ≡ None
    → task_blocks (state_of (Edited edit ∷ history)) task ≡ task_blocks (state_of history) task
    → is_ready history task ≡ true → is_ready (edited_and_cleared history edit) task ≡ true

-- the entry is the project's opening or an accepted edit
abbrev pub changes_line : HistoryEntry → Bool
changes_line (Opened groups) = true
changes_line (Edited edit) = true
changes_line entry = false

-- in a state an entry spares a task: it is no opening and no accepted edit, and it forgets no slave that has an area in the task
abbrev pub spares : State → ℕ → HistoryEntry → Bool
spares state task (Opened groups) = false
spares state task (Edited edit) = false
spares state task (Forgot station) = not (list_any (λ (block : LineBlock). block.station == station) (task_blocks state task))
spares state task entry = true

-- in a project a ready task stays ready whatever spares it: posts, frames, register writes, their answers, and other slaves that are forgotten, cleared or unplugged
abbrev pub ReadyStaysReady : Type 0
ReadyStaysReady =
    (since : List HistoryEntry) (history : History) (task : ℕ) → IsReachable (since ++ history)
    → lowest_fault (groups_of (state_of history).groups) ≡ None → over_limit_task (line_of history) ≡ None
    → list_all (spares (state_of history) task) since ≡ true → is_ready history task ≡ true → is_ready (since ++ history) task ≡ true

-- in a project, until the next edit, a slave that was cleared holds up no task but those of its own areas, whether its blocks
-- are written, answered, written again or not, and even if it is forgotten
abbrev pub ClearedSlavesHoldUpTheirOwn : Type 0
ClearedSlavesHoldUpTheirOwn =
    (since : List HistoryEntry) (history : History) (task : ℕ) (block : LineBlock) → IsReachable (since ++ Cleared block.station ∷ history)
    → lowest_fault (groups_of (state_of history).groups) ≡ None → over_limit_task (line_of history) ≡ None
    → list_any changes_line since ≡ false → Contains (line_blocks (line_of history)) block
    → concerns (since ++ Cleared block.station ∷ history) task block ≡ true → serves_task (state_of history) task block ≡ true

-- a register outside the line whose contents name a task keeps it waiting, unless its slave is unplugged
abbrev pub SlavesOutsideHoldUpTheirTasks : Type 0
SlavesOutsideHoldUpTheirTasks =
    (history : History) (task : ℕ) (register : ℕ × ℕ) → Contains (registers_outside (state_of history)) register → is_unplugged history register.0 ≡ false
    → names_among task (may_hold history register.0 register.1) ≡ true → is_ready history task ≡ false

-- the entry says that a slave is cleared or unplugged
abbrev pub releases : ℕ → HistoryEntry → Bool
releases station (Cleared other) = station == other
releases station (Unplugged other) = station == other
releases station entry = false

-- through these entries, the newest first, a slave stays outside the line, and is neither cleared nor unplugged
abbrev pub StaysPlugged : ℕ → History → List HistoryEntry → Type 0
StaysPlugged station history [] = is_in_line history station ≡ false
StaysPlugged station history (entry ∷ since) =
    StaysPlugged station history since × (is_in_line (entry ∷ since ++ history) station ≡ false) × (releases station entry ≡ false)

-- the registers of a slave have the contents that they had, and it is unplugged if it was
pub record IsHeldStill (before after : History) (station : ℕ) : Type 0 where
  pub contents : (number : ℕ) → (may_hold after station number).contents ≡ (may_hold before station number).contents
  pub unplugged : is_unplugged after station ≡ is_unplugged before station

-- `IsHeldStill` holds as long as the slave stays outside the line, and is neither cleared nor unplugged
abbrev pub SlavesOutsideHoldStill : Type 0
SlavesOutsideHoldStill =
    (since : List HistoryEntry) (history : History) (station : ℕ) → IsReachable (since ++ history) → StaysPlugged station history since
    → IsHeldStill history (since ++ history) station

-- a task is ready exactly if no slave holds it up
abbrev pub ReadyTasksHaveNoHolder : Type 0
ReadyTasksHaveNoHolder = (history : History) (task : ℕ) → (is_ready history task ≡ true) ↔ (holders history task ≡ [])

-- bit t of tasks as a number is 1 if task t passes the test, otherwise 0
abbrev pub MasksSayTheirTasks : Type 0
MasksSayTheirTasks = (test : ℕ → Bool) (task : ℕ) → task < TASKS → bit_at (mask_of test) task ≡ (if test task then 1 else 0)
