-- The tasks whose register blocks an accepted edit changes, by the state of the areas, the slaves that leave and the blocks
-- that move.
use Rattle.std.specs.Prelude.{◌≡◌, ℕ, ◌-◌, ◌*◌, ◌/◌, ◌<◌, ◌&&◌, ◌||◌, not, Bool, List, slice_get, None, Ok}
use Rattle.std.specs.Option.{option_map_or}
use Rattle.std.specs.List.{list_any, range_with_len}
use Rattle.hc_records.specs.declared.edit.Edit.{Edit}
use Rattle.hc_records.specs.declared.limits.TheConstants.{TASKS}
use Rattle.hc_records.specs.Edits.{edited, over_limit_task}
use Rattle.hc_records.specs.Line.{State, line}
use Rattle.hc_registers.specs.declared.ranked.Gone.{Gone}
use Rattle.hc_registers.specs.Ranked.{RankedBlock, moved_ranked}
use Rattle.hc_registers.specs.RankDifferences.{Differ, block_place}
use Rattle.hc_registers.specs.RankPlaces.{places}
use Rattle.hc_events.specs.Ready.{is_fmmu, names_task}
use Rattle.hc_events.specs.Steady.{same_line_block, same_lists, task_blocks}
use Rattle.hc_owed.specs.declared.area.JudgedArea.{JudgedArea}
use Rattle.hc_owed.specs.declared.task_set.TaskSet.{TaskSet}
use Rattle.hc_owed.specs.Readiness.{Holdings}
use Rattle.hc_owed.specs.ReadinessSteps.{IsReadinessFor}
use Rattle.hc_owed.specs.RegisterState.{Knowledge}
use Rattle.hc_owed.specs.TaskSets.{has_task, no_task}

-- the changes to a task's blocks

-- the task that the line's block of an area's FMMU names, by the area's index; none if there is no such area
abbrev pub own_at : List JudgedArea → ℕ → TaskSet
own_at areas n = option_map_or (λ (area : JudgedArea). area.own) (slice_get areas n) no_task

-- an area of the slaves that leave is in a task
abbrev pub leaves_task : List JudgedArea → Gone → ℕ → Bool
leaves_task areas gone task = list_any (λ n. has_task task (own_at areas n)) (range_with_len (8 * (gone.rank - 1)) (8 * gone.slaves))

-- a block that moves is one of an area that was in a task, or an FMMU's that names the task from now on
abbrev pub moves_task : List JudgedArea → ℕ → RankedBlock → Bool
moves_task areas task moved =
    has_task task (own_at areas (block_place moved / 2)) || (is_fmmu (block_place moved) && names_task task moved.found.block.bytes)

-- the law

-- the state of the areas is right for the line before an accepted edit, with which these slaves leave and these blocks move
pub record BlocksAreEdited (areas : List JudgedArea) (gone : Gone) (moved : List RankedBlock) : Type 0 where
  pub known : Knowledge
  pub held : Holdings
  pub unplugged : ℕ → Bool
  pub old : State
  pub edit : Edit
  pub new : State
  pub right : IsReadinessFor known held unplugged old areas
  pub accepted : edited old edit ≡ Ok new
  pub uncrowded : over_limit_task (line new) ≡ None
  pub blocks : moved ≡ moved_ranked (line old) (line new)
  pub differ : Differ (places old) (places new) gone moved

-- the register blocks of the areas in a task differ between two states
abbrev pub changes_blocks : State → State → ℕ → Bool
changes_blocks old new task = not (same_lists same_line_block (task_blocks old task) (task_blocks new task))

-- a set has just the tasks whose register blocks the edit changes
abbrev pub HasChangedBlocks : List JudgedArea → Gone → List RankedBlock → TaskSet → Type 0
HasChangedBlocks areas gone moved set =
    (is : BlocksAreEdited areas gone moved) (task : ℕ) → task < TASKS → has_task task set ≡ changes_blocks is.old is.new task
