-- The state of the areas once an edit is carried out and each slave that came with it is cleared.
use Rattle.std.specs.Prelude.{◌≡◌, ℕ, ◌*◌, ◌/◌, ◌<◌, ◌≤◌, ◌&&◌, not, is_some, Bool, false, if◌then◌else◌, List, [], ◌∷◌, All, AllPairs, length, slice_get, Ok}
use Rattle.hc_records.specs.Lists.{changed_at}
use Rattle.hc_records.specs.declared.edit.Edit.{Edit}
use Rattle.hc_records.specs.Edits.{declares, edited, slave_at}
use Rattle.hc_records.specs.Line.{State}
use Rattle.hc_registers.specs.declared.ranked.Gone.{Gone}
use Rattle.hc_registers.specs.Ranked.{RankedBlock}
use Rattle.hc_registers.specs.RankDifferences.{Differ, block_place}
use Rattle.hc_registers.specs.RankPlaces.{places}
use Rattle.hc_events.specs.Holding.{cleared_register}
use Rattle.hc_owed.specs.declared.area.JudgedArea.{JudgedArea}
use Rattle.hc_owed.specs.declared.tally.Tally.{Tally}
use Rattle.hc_owed.specs.Areas.{area_entered}
use Rattle.hc_owed.specs.Laws.{known_over}
use Rattle.hc_owed.specs.Readiness.{Holdings, readiness_of}
use Rattle.hc_owed.specs.ReadinessSteps.{IsReadinessFor, block_moved, unplugged_over}
use Rattle.hc_owed.specs.RegisterState.{Knowledge, RegisterState, register_state_of}
use Rattle.hc_owed.specs.Steps.{owed_where_moved}
use Rattle.hc_owed.specs.Tally.{Tallies}

-- the registers of slaves that come into the line are cleared, and the others hold what they held
abbrev pub held_cleared : State → State → Holdings → Holdings
held_cleared old new held station number = if not (is_some (slave_at old station)) && is_some (slave_at new station) then cleared_register else held station number

-- an area once a moved block of it is there, and its slave, if it came, is cleared; the register state is that before the edit
abbrev pub area_coming : RegisterState → RankedBlock → JudgedArea → JudgedArea
area_coming owed moved area = block_moved (owed_where_moved moved owed) moved (area_entered area)

-- the areas once moved blocks are there, one after another
abbrev pub areas_coming : RegisterState → List RankedBlock → List JudgedArea → List JudgedArea
areas_coming owed [] areas = areas
areas_coming owed (moved ∷ rest) areas = areas_coming owed rest (changed_at (block_place moved / 2) (area_coming owed moved) areas)

-- moved blocks, in line and block order, can be counted: the counts are those of areas that are the same at the blocks that
-- move
pub record CanTallyMoved (areas : List JudgedArea) (tally : Tally) (owed : RegisterState) (moved : List RankedBlock) : Type 0 where
  pub counted : List JudgedArea
  pub tallied : Tallies counted tally
  pub few : length counted < 8 * 65536
  pub ranks : All (λ block. 1 ≤ block.rank) moved
  pub inside : All (λ block. block_place block < 2 * length areas) moved
  pub known : All (λ block. block_place block < length owed.known) moved
  pub same : All (λ block. slice_get counted (block_place block / 2) ≡ slice_get areas (block_place block / 2)) moved
  pub ascend : AllPairs (λ a b. block_place a < block_place b) moved

-- the state of the areas and of the blocks is right for a project's state, in which an edit that declares nothing can be
-- carried out; the lines differ by the slaves that leave and the moved blocks
pub record ReadinessWillBeEdited (areas : List JudgedArea) (owed : RegisterState) (gone : Gone) (moved : List RankedBlock) : Type 0 where
  pub known : Knowledge
  pub held : Holdings
  pub unplugged : ℕ → Bool
  pub old : State
  pub edit : Edit
  pub new : State
  pub right : IsReadinessFor known held unplugged old areas
  pub accepted : edited old edit ≡ Ok new
  pub same : declares edit ≡ false
  pub differ : Differ (places old) (places new) gone moved
  pub blocks : owed ≡ register_state_of known old
  pub ascend : AllPairs (λ a b. block_place a < block_place b) moved

-- the state of the areas once an edit is carried out and each slave that came is cleared: nothing is known of its blocks, and
-- its registers are zeros
abbrev pub areas_cleared : Knowledge → Holdings → (ℕ → Bool) → State → State → List JudgedArea
areas_cleared known held unplugged old new = readiness_of (known_over old known) (held_cleared old new held) (unplugged_over new unplugged) new
