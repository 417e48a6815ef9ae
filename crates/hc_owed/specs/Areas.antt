-- The state of an area from which the ready tasks are known, and the tasks that the area keeps waiting.
use Rattle.std.specs.Prelude.{ℕ, ◌+◌, if◌then◌else◌, Bool, true, false}
use Rattle.hc_owed.specs.declared.area.JudgedArea.{JudgedArea}
use Rattle.hc_owed.specs.declared.area.OwedPair.{OwedPair}
use Rattle.hc_owed.specs.declared.area.OwedPair.TheVariants.{Neither, SyncManager, Fmmu, Both}
use Rattle.hc_owed.specs.declared.area.RegisterStatus.{RegisterStatus}
use Rattle.hc_owed.specs.declared.area.Turn.{Turn}
use Rattle.hc_owed.specs.declared.area.Turn.TheVariants.{Left, Forgotten, Cleared, Unplugs}
use Rattle.hc_owed.specs.declared.area.RegisterStatus.TheVariants.{Outside, Unplugged, Unknown, Sure}
use Rattle.hc_owed.specs.Flags.{one}
use Rattle.hc_owed.specs.declared.task_set.TaskSet.{TaskSet}
use Rattle.hc_owed.specs.TaskSets.{either_set, every_task, has_task, no_task, some_task}

-- which blocks of an area are owed: its sync manager's, its FMMU's, both or neither
abbrev pub pair_of : Bool → Bool → OwedPair
pair_of false false = Neither
pair_of true false = SyncManager
pair_of false true = Fmmu
pair_of true true = Both

-- the sync manager's block is owed
abbrev pub owes_sync_manager : OwedPair → Bool
owes_sync_manager Neither = false
owes_sync_manager SyncManager = true
owes_sync_manager Fmmu = false
owes_sync_manager Both = true

-- the FMMU's block is owed
abbrev pub owes_fmmu : OwedPair → Bool
owes_fmmu Neither = false
owes_fmmu SyncManager = false
owes_fmmu Fmmu = true
owes_fmmu Both = true

-- the register is one of a slave in the line that is unknown
abbrev pub is_register_unknown : RegisterStatus → Bool
is_register_unknown Unplugged = false
is_register_unknown Outside = false
is_register_unknown Unknown = true
is_register_unknown Sure = false

-- the register is one of a slave outside the line that may be on the wire
abbrev pub is_apart : RegisterStatus → Bool
is_apart Unplugged = false
is_apart Outside = true
is_apart Unknown = false
is_apart Sure = false

-- the register is one of a slave in the line
abbrev pub is_inside : RegisterStatus → Bool
is_inside Unplugged = false
is_inside Outside = false
is_inside Unknown = true
is_inside Sure = true

-- the events of a slave's areas: it leaves the line, its registers are forgotten, they are cleared, or it is unplugged outside
-- the line

-- a register's slave has left the line
abbrev pub standing_left : RegisterStatus → RegisterStatus
standing_left Outside = Outside
standing_left Unplugged = Unplugged
standing_left Unknown = Outside
standing_left Sure = Outside

-- a register of a slave that comes is unknown
abbrev pub standing_come : RegisterStatus → RegisterStatus
standing_come Outside = Unknown
standing_come Unplugged = Unknown
standing_come Unknown = Unknown
standing_come Sure = Sure

-- a cleared register is not unknown
abbrev pub standing_cleared : RegisterStatus → RegisterStatus
standing_cleared Outside = Outside
standing_cleared Unplugged = Outside
standing_cleared Unknown = Sure
standing_cleared Sure = Sure

-- a register that names a task concerns none while its slave is unplugged
abbrev pub standing_unplugged : Bool → RegisterStatus → RegisterStatus
standing_unplugged names Outside = if names then Unplugged else Outside
standing_unplugged names Unplugged = Unplugged
standing_unplugged names Unknown = Unknown
standing_unplugged names Sure = Sure

-- both blocks of an area of a slave of the line are owed once nothing is known of them
abbrev pub pair_forgotten : RegisterStatus → OwedPair → OwedPair
pair_forgotten standing owed = if is_inside standing then Both else owed

-- an area after this event of its slave
abbrev pub area_after : Turn → JudgedArea → JudgedArea
area_after Left area = record { own = no_task; held = area.held; owed = Neither; standing = standing_left area.standing }
area_after Forgotten area = record area { owed = pair_forgotten area.standing area.owed }
area_after Cleared area = record area { held = no_task; standing = standing_cleared area.standing }
area_after Unplugs area = record area { standing = standing_unplugged (some_task area.held) area.standing }

-- an area of a slave that is in the line now: if the slave came, its register is cleared
abbrev pub area_entered : JudgedArea → JudgedArea
area_entered area = if is_inside area.standing then area else record area { held = no_task; standing = Sure }

-- an area once a write of its FMMU's block was sent: the register may hold what the line configures too. Nothing is sent to a
-- slave outside the line
abbrev pub area_written : JudgedArea → JudgedArea
area_written area = if is_apart area.standing then area else record area { held = either_set area.own area.held }

-- a write of an area's FMMU's block was answered well: the register holds that block alone
abbrev pub fmmu_confirmed : JudgedArea → JudgedArea
fmmu_confirmed area = record { own = area.own; held = area.own; owed = pair_of (owes_sync_manager area.owed) false; standing = Sure }

-- a write of an area's sync manager's block was answered well
abbrev pub sync_manager_confirmed : JudgedArea → JudgedArea
sync_manager_confirmed area = record area { owed = pair_of false (owes_fmmu area.owed) }

-- an edit moves the block of an area's sync manager, which is then owed or not
abbrev pub sync_manager_moved : Bool → JudgedArea → JudgedArea
sync_manager_moved owed area = record area { owed = pair_of owed (owes_fmmu area.owed); standing = standing_come area.standing }

-- an edit moves the block of an area's FMMU, which then names these tasks, and is owed or not
abbrev pub fmmu_moved : TaskSet → Bool → JudgedArea → JudgedArea
fmmu_moved own owed area = record { own = own; held = area.held; owed = pair_of (owes_sync_manager area.owed) owed; standing = standing_come area.standing }

-- the tasks that an area keeps waiting

-- a set of tasks if it counts, otherwise no task
abbrev pub set_if : Bool → TaskSet → TaskSet
set_if counts set = if counts then set else no_task

-- the tasks that a register may name: every task if it is unknown
abbrev pub named_set : RegisterStatus → TaskSet → TaskSet
named_set standing held = if is_register_unknown standing then every_task else held

-- the tasks that the owed block of an area's sync manager concerns: the area's own
abbrev pub sync_manager_concerns : JudgedArea → TaskSet
sync_manager_concerns area = set_if (owes_sync_manager area.owed) area.own

-- the tasks that the owed block of an area's FMMU concerns: the area's own, and each that its register may name
abbrev pub fmmu_concerns : JudgedArea → TaskSet
fmmu_concerns area = set_if (owes_fmmu area.owed) (either_set area.own (named_set area.standing area.held))

-- the tasks that the register of an area concerns outside the line
abbrev pub register_concerns : JudgedArea → TaskSet
register_concerns area = set_if (is_apart area.standing) area.held

-- the number of an area's blocks that a task waits for
abbrev pub blocks_waited : ℕ → JudgedArea → ℕ
blocks_waited task area = one (has_task task (sync_manager_concerns area)) + one (has_task task (fmmu_concerns area))

-- the number of an area's registers outside the line that a task waits for, 0 or 1
abbrev pub registers_waited : ℕ → JudgedArea → ℕ
registers_waited task area = one (has_task task (register_concerns area))
