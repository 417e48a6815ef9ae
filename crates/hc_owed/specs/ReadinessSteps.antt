-- The steps of the areas' state: writes, their answers, edits, and events of a slave.
use Rattle.std.specs.Prelude.{◌≡◌, ℕ, zero, suc, ◌+◌, ◌-◌, ◌*◌, ◌/◌, ◌==◌, ◌&&◌, ◌||◌, not, is_some, Bool, true, false, if◌then◌else◌, List, [], ◌∷◌, slice_get, unwrap_or, None, Some, Ok}
use Rattle.hc_records.specs.Lists.{changed_at}
use Rattle.hc_records.specs.declared.edit.Edit.{Edit}
use Rattle.hc_records.specs.Edits.{declares, edited, over_limit_task, slave_at}
use Rattle.hc_records.specs.Line.{State, groups_of, line}
use Rattle.hc_records.specs.Project.{lowest_fault}
use Rattle.hc_registers.specs.Blocks.{LineBlock}
use Rattle.hc_registers.specs.declared.ranked.Gone.{Gone}
use Rattle.hc_registers.specs.Ranked.{RankedBlock}
use Rattle.hc_registers.specs.RankDifferences.{Differ, block_place}
use Rattle.hc_registers.specs.RankPlaces.{places}
use Rattle.hc_events.specs.Holding.{MayHold, cleared_register, held_after_coming}
use Rattle.hc_events.specs.Ready.{is_fmmu}
use Rattle.hc_owed.specs.declared.area.JudgedArea.{JudgedArea}
use Rattle.hc_owed.specs.declared.area.Turn.TheVariants.{Left}
use Rattle.hc_owed.specs.Areas.{area_after, area_written, fmmu_confirmed, fmmu_moved, sync_manager_confirmed, sync_manager_moved}
use Rattle.hc_owed.specs.Laws.{known_over, same_name}
use Rattle.hc_owed.specs.Readiness.{Holdings, own_set, readiness_of}
use Rattle.hc_owed.specs.RegisterState.{Knowledge, RegisterState, register_state_of}

-- the bytes that registers may hold

-- the holdings with a change to one register
abbrev pub held_with : ℕ × ℕ → (MayHold → MayHold) → Holdings → Holdings
held_with name change held station number = if same_name name (station, number) then change (held station number) else held station number

-- bytes are added to the contents of a register
abbrev pub with_contents : List ℕ → MayHold → MayHold
with_contents bytes held = record { unknown = held.unknown; contents = bytes ∷ held.contents }

-- a register holds these bytes alone
abbrev pub only_contents : List ℕ → MayHold → MayHold
only_contents bytes held = record { unknown = false; contents = bytes ∷ [] }

-- the registers of the slave with a station address are cleared
abbrev pub held_without : ℕ → Holdings → Holdings
held_without station held other number = if other == station then cleared_register else held other number

-- the registers of slaves that come into the line are unknown
abbrev pub held_over : State → State → Holdings → Holdings
held_over old new held station number = held_after_coming (not (is_some (slave_at old station)) && is_some (slave_at new station)) (held station number)

-- a slave that is in the line after an edit is not unplugged
abbrev pub unplugged_over : State → (ℕ → Bool) → ℕ → Bool
unplugged_over new unplugged station = unplugged station && not (is_some (slave_at new station))

-- the slave with a station address is unplugged
abbrev pub unplugged_with : ℕ → (ℕ → Bool) → ℕ → Bool
unplugged_with station unplugged other = (other == station) || unplugged other

-- the state of the areas

-- the state of the areas is right for a project's state, for these known bytes, for the bytes that the registers may hold, and
-- for these unplugged slaves, none of them in the line
pub record IsReadinessFor (known : Knowledge) (held : Holdings) (unplugged : ℕ → Bool) (state : State) (areas : List JudgedArea) : Type 0 where
  pub right : areas ≡ readiness_of known held unplugged state
  pub project : lowest_fault (groups_of state.groups) ≡ None
  pub uncrowded : over_limit_task (line state) ≡ None
  pub plugged : (station : ℕ) → is_some (slave_at state station) ≡ true → unplugged station ≡ false

-- a block of the line is at a place
pub record IsReadinessAt (areas : List JudgedArea) (n : ℕ) (known : Knowledge) (held : Holdings) (unplugged : ℕ → Bool) (state : State) (block : LineBlock) : Type 0 where
  pub right : areas ≡ readiness_of known held unplugged state
  pub project : lowest_fault (groups_of state.groups) ≡ None
  pub is_placed : slice_get (places state) n ≡ Some (Some block)

-- so many elements from an index on are changed
abbrev pub changed_from : {X : Type 0} → (X → X) → ℕ → ℕ → List X → List X
changed_from change from zero xs = xs
changed_from change from (suc count) xs = changed_at (from + count) change (changed_from change from count xs)

-- an area after a write of its block with a number was sent
abbrev pub area_sent : ℕ → JudgedArea → JudgedArea
area_sent number area = if is_fmmu number then area_written area else area

-- an area after a write of its block with a number was answered well
abbrev pub area_confirmed : ℕ → JudgedArea → JudgedArea
area_confirmed number area = if is_fmmu number then fmmu_confirmed area else sync_manager_confirmed area

-- an area after one of its blocks moved, which is then owed or not
abbrev pub block_moved : Bool → RankedBlock → JudgedArea → JudgedArea
block_moved owes moved area = if is_fmmu (block_place moved) then fmmu_moved (own_set (Some moved.found)) owes area else sync_manager_moved owes area

-- an area after one of its blocks moved, with flags that tell which blocks are owed after the edit
abbrev pub area_moved : List Bool → RankedBlock → JudgedArea → JudgedArea
area_moved owed moved area = block_moved (unwrap_or (slice_get owed (block_place moved)) false) moved area

-- the areas after moved blocks, one after another
abbrev pub areas_moved : List Bool → List RankedBlock → List JudgedArea → List JudgedArea
areas_moved owed [] areas = areas
areas_moved owed (moved ∷ rest) areas = areas_moved owed rest (changed_at (block_place moved / 2) (area_moved owed moved) areas)

-- the areas of slaves that leave the line
abbrev pub areas_left : Gone → List JudgedArea → List JudgedArea
areas_left gone areas = changed_from (area_after Left) (8 * (gone.rank - 1)) (8 * gone.slaves) areas

-- an edit that declares nothing was accepted; the lines differ by the slaves that left and the moved blocks, and the owed blocks are already those of the new line
pub record ReadinessIsEdited (areas : List JudgedArea) (owed : RegisterState) (gone : Gone) (moved : List RankedBlock) : Type 0 where
  pub known : Knowledge
  pub held : Holdings
  pub unplugged : ℕ → Bool
  pub old : State
  pub edit : Edit
  pub new : State
  pub right : IsReadinessFor known held unplugged old areas
  pub accepted : edited old edit ≡ Ok new
  pub same : declares edit ≡ false
  pub differ : Differ (places old) (places new) gone moved
  pub flags : owed ≡ register_state_of (known_over old known) new
