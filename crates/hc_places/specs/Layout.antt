-- The layout of a line: the places of its areas.
use Rattle.std.specs.Prelude.{ℕ, List, map, find, slice_get, option_and_then, option_map, Option, Some, ◌≡◌, ◌≢◌}
use Rattle.hc_records.specs.declared.keys.Key.{Key}
use Rattle.hc_records.specs.declared.faults.EditFault.{EditFault}
use Rattle.hc_records.specs.declared.faults.EditFault.TheVariants.{Memory, TooManyDatagrams}
use Rattle.hc_records.specs.Keys.{same_key}
use Rattle.hc_records.specs.Line.{Member}
use Rattle.hc_records.specs.Packing.{Placed}
use Rattle.hc_records.specs.Image.{task_places, tasks}
use Rattle.hc_records.specs.Edits.{over_limit_task}

-- the areas of each task with their places
abbrev pub layout_of : List Member → List (List Placed)
layout_of line = map (λ task. task_places task line) tasks

-- the place of a key in a task
abbrev pub placed_in : List (List Placed) → ℕ → Key → Option Placed
placed_in layout task key = option_and_then (find (λ placed. same_key placed.key key)) (slice_get layout task)

-- a fault other than `Memory` names the lowest task that needs more than 16 datagrams
abbrev pub NamesOverLimit : List Member → EditFault → Type 0
NamesOverLimit line fault = fault ≢ Memory → option_map TooManyDatagrams (over_limit_task line) ≡ Some fault
