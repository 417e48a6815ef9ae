-- The laws of the steps and the look-ups of a readiness, for any known bytes of the blocks, any bytes that the registers may
-- hold, and any unplugged slaves.
use Rattle.std.specs.Prelude.{◌≡◌, ℕ, is_some, not, Bool, true, false, List, length, slice_get, MatchOption, Option, None, Some}
use Rattle.hc_records.specs.declared.edit.Edit.TheVariants.{Declare}
use Rattle.hc_records.specs.Edits.{changed, slave_at}
use Rattle.hc_records.specs.Line.{State}
use Rattle.hc_registers.specs.Blocks.{LineBlock}
use Rattle.hc_registers.specs.declared.ranked.Gone.{Gone}
use Rattle.hc_registers.specs.Ranked.{RankedBlock}
use Rattle.hc_registers.specs.RankPlaces.{stations}
use Rattle.hc_plan.specs.Reports.{found_name}
use Rattle.hc_owed.specs.declared.area.JudgedArea.{JudgedArea}
use Rattle.hc_owed.specs.declared.readiness_room.ReadinessRoom.{ReadinessRoom}
use Rattle.hc_owed.specs.declared.task_set.TaskSet.{TaskSet}
use Rattle.hc_owed.specs.EditWaits.{ReadinessWillBeEdited, areas_cleared}
use Rattle.hc_owed.specs.Holders.{IsHolder, holding_slaves}
use Rattle.hc_owed.specs.Laws.{known_over, known_with, known_without}
use Rattle.hc_owed.specs.Readiness.{Holdings, may_be_sent, readiness_of, blocks_waited_for, registers_waited_for}
use Rattle.hc_owed.specs.ReadinessRoom.{ReadinessCanAdmit}
use Rattle.hc_owed.specs.ReadinessSteps.{IsReadinessAt, IsReadinessFor, ReadinessIsEdited, held_over, held_with, held_without, only_contents, unplugged_over, unplugged_with, with_contents}
use Rattle.hc_owed.specs.RegisterState.{Knowledge, RegisterState, lacks}
use Rattle.hc_owed.specs.TaskSets.{tasks_where}

-- the write of the owed block at a place was sent: its bytes are not known, and its register may hold them
abbrev pub SendsAt : List JudgedArea → List JudgedArea → ℕ → Type 0
SendsAt old new place =
    (known : Knowledge) (held : Holdings) (unplugged : ℕ → Bool) (state : State) (block : LineBlock) → IsReadinessAt old place known held unplugged state block → lacks known block ≡ true
    → new ≡ readiness_of (known_with (found_name block) None known) (held_with (found_name block) (with_contents block.block.bytes) held) unplugged state

-- the write of the block at a place was answered well: its bytes are known, and its register holds them alone
abbrev pub ConfirmsAt : List JudgedArea → List JudgedArea → ℕ → Type 0
ConfirmsAt old new place =
    (known : Knowledge) (held : Holdings) (unplugged : ℕ → Bool) (state : State) (block : LineBlock) → IsReadinessAt old place known held unplugged state block
    → new ≡ readiness_of (known_with (found_name block) (Some block.block.bytes) known) (held_with (found_name block) (only_contents block.block.bytes) held) unplugged state

-- nothing is known any more of the blocks of the declared slave with an index
abbrev pub ForgetsSlave : List JudgedArea → List JudgedArea → ℕ → Type 0
ForgetsSlave old new index =
    (known : Knowledge) (held : Holdings) (unplugged : ℕ → Bool) (state : State) (station : ℕ) → IsReadinessFor known held unplugged state old → slice_get (stations state) index ≡ Some station
    → new ≡ readiness_of (known_without station known) held unplugged state

-- the registers of the declared slave with an index are cleared
abbrev pub ClearsSlave : List JudgedArea → List JudgedArea → ℕ → Type 0
ClearsSlave old new index =
    (known : Knowledge) (held : Holdings) (unplugged : ℕ → Bool) (state : State) (station : ℕ) → IsReadinessFor known held unplugged state old → slice_get (stations state) index ≡ Some station
    → new ≡ readiness_of known (held_without station held) unplugged state

-- the declared slave with an index is outside the line, and is unplugged
abbrev pub UnplugsSlave : List JudgedArea → List JudgedArea → ℕ → Type 0
UnplugsSlave old new index =
    (known : Knowledge) (held : Holdings) (unplugged : ℕ → Bool) (state : State) (station : ℕ) → IsReadinessFor known held unplugged state old → slice_get (stations state) index ≡ Some station
    → is_some (slave_at state station) ≡ false → new ≡ readiness_of known held (unplugged_with station unplugged) state

-- an edit that declares nothing was accepted
abbrev pub FollowsEdit : List JudgedArea → List JudgedArea → RegisterState → Gone → List RankedBlock → Type 0
FollowsEdit old new owed gone moved =
    (is : ReadinessIsEdited old owed gone moved) → new ≡ readiness_of (known_over is.old is.known) (held_over is.old is.new is.held) (unplugged_over is.new is.unplugged) is.new

-- a group was declared
abbrev pub AdmitsGroup : List JudgedArea → List JudgedArea → ReadinessRoom → Type 0
AdmitsGroup old new room =
    (can : ReadinessCanAdmit old room)
    → new
    ≡ readiness_of (known_over can.old can.known) (held_over can.old (changed can.old (Declare can.group)) can.held) (unplugged_over (changed can.old (Declare can.group)) can.unplugged) (changed can.old (Declare can.group))

-- a task waits for so many owed blocks
abbrev pub WaitsForBlocks : List JudgedArea → ℕ → ℕ → Type 0
WaitsForBlocks areas task count =
    (known : Knowledge) (held : Holdings) (unplugged : ℕ → Bool) (state : State) → IsReadinessFor known held unplugged state areas → count ≡ length (blocks_waited_for known held state task)

-- a task waits for so many registers of slaves outside the line
abbrev pub WaitsForRegisters : List JudgedArea → ℕ → ℕ → Type 0
WaitsForRegisters areas task count =
    (known : Knowledge) (held : Holdings) (unplugged : ℕ → Bool) (state : State) → IsReadinessFor known held unplugged state areas → count ≡ length (registers_waited_for held unplugged state task)

-- a task is ready or not
abbrev pub TellsReady : List JudgedArea → ℕ → Bool → Type 0
TellsReady areas task ready =
    (known : Knowledge) (held : Holdings) (unplugged : ℕ → Bool) (state : State) → IsReadinessFor known held unplugged state areas → ready ≡ may_be_sent known held unplugged state task

-- these are the tasks that are ready
abbrev pub AreReady : List JudgedArea → TaskSet → Type 0
AreReady areas set =
    (known : Knowledge) (held : Holdings) (unplugged : ℕ → Bool) (state : State) → IsReadinessFor known held unplugged state areas → set ≡ tasks_where (may_be_sent known held unplugged state)

-- these are the tasks that wait for something
abbrev pub AreWaiting : List JudgedArea → TaskSet → Type 0
AreWaiting areas set =
    (known : Knowledge) (held : Holdings) (unplugged : ℕ → Bool) (state : State) → IsReadinessFor known held unplugged state areas → set ≡ tasks_where (λ task. not (may_be_sent known held unplugged state task))

-- these are the tasks that will wait once an edit that declares nothing is carried out and each slave that came is cleared
abbrev pub ForetellsWaiting : List JudgedArea → RegisterState → Gone → List RankedBlock → TaskSet → Type 0
ForetellsWaiting areas owed gone moved set =
    (is : ReadinessWillBeEdited areas owed gone moved) → AreWaiting (areas_cleared is.known is.held is.unplugged is.old is.new) set

-- these are the tasks that will wait once a group is declared
abbrev pub ForetellsDeclared : List JudgedArea → TaskSet → Type 0
ForetellsDeclared areas set =
    (room : ReadinessRoom) (can : ReadinessCanAdmit areas room) → AreWaiting (areas_cleared can.known can.held can.unplugged can.old (changed can.old (Declare can.group))) set

-- of the slaves that hold a task up the one with an index, or none
abbrev pub GivesHolder : List JudgedArea → ℕ → ℕ → Option ℕ → Type 0
GivesHolder areas task n found =
    (known : Knowledge) (held : Holdings) (unplugged : ℕ → Bool) (state : State) → IsReadinessFor known held unplugged state areas
    → MatchOption found (slice_get (holding_slaves known held unplugged state task) n ≡ None) (IsHolder known held unplugged state task n)
