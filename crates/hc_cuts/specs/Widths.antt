-- A task whose widths are set: its areas and boundaries.
use Rattle.std.specs.Prelude.{◌≡◌, ℕ, ◌==◌, ◌≤◌, not, All, Bool, if◌then◌else◌, List, length}
use Rattle.hc_records.specs.declared.limits.TheConstants.{MOST_AREA_BITS, MOST_AREAS}
use Rattle.hc_records.specs.declared.records.Area.{Area}
use Rattle.hc_records.specs.declared.keys.Key.{Key}
use Rattle.hc_records.specs.Area.{width}
use Rattle.hc_records.specs.Boundaries.{width_in}
use Rattle.hc_bitsum.specs.Tree.{HoldsTaskList}
use Rattle.hc_cuts.specs.Starts.{TaskCuts}
use Rattle.hc_cuts.specs.Areas.{slave_width, width_at, AreaLine}

-- a slave's areas are few, and none is wider than a datagram
pub record AreBounded (areas : List Area) : Type 0 where
  pub few : length areas ≤ MOST_AREAS
  pub narrow : All (λ area. width area ≤ MOST_AREA_BITS) areas

-- a task whose keys have these widths, and whose boundaries are those that were last computed
pub record IsSetTo (old new : TaskCuts) (widths : Key → ℕ) : Type 0 where
  pub slaves : new.tree.slaves ≡ old.tree.slaves
  pub starts : new.starts ≡ old.starts
  pub holds : HoldsTaskList new.tree
  pub each : (key : Key) → width_in new.tree.list key ≡ widths key

-- the widths of a slave's areas, and those of a task for every other key
abbrev pub widths_with_slave : ℕ → ℕ → List Area → TaskCuts → Key → ℕ
widths_with_slave task rank areas cuts key = if rank == key.rank then slave_width task areas key else width_in cuts.tree.list key

-- the width of a key differs between a slave's old areas and its new ones, or between those of all slaves

-- the width of a key in a task differs between a slave's old areas and its new ones
abbrev pub width_differs : ℕ → List Area → List Area → Key → Bool
width_differs task old new key = not (slave_width task old key == slave_width task new key)

-- the width of a key in a task differs between the areas of all slaves of the old line and of the new one
abbrev pub differs_at : ℕ → AreaLine → AreaLine → Key → Bool
differs_at task old new key = not (width_at task old key == width_at task new key)
