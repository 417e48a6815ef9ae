-- The variables of a task by the places of its areas, whose records are found under their keys.
use Rattle.std.proofs.Common.{◌≡◌, ℕ, List, None}
use Rattle.std.specs.Prelude.{All}
use Rattle.std.specs.List.{flat_map}
use Rattle.hc_records.specs.declared.records.Declared.{Declared}
use Rattle.hc_records.specs.Image.{task_places, task_variables}
use Rattle.hc_records.specs.Line.{groups_of, line_from}
use Rattle.hc_records.specs.Packing.{empty_front}
use Rattle.hc_records.specs.Project.{lowest_fault}
use Rattle.hc_records.specs.TaskList.{task_areas, task_list}
use Rattle.hc_records.proofs.lemmas.Packed.{packed-areas}
use Rattle.hc_cuts.specs.Areas.{areas_by_rank}
use Rattle.hc_cuts.proofs.lemmas.Named.{keys-name}
use Rattle.hc_places.specs.Found.{IsFoundSuiting, found_variables}
use Rattle.hc_places.proofs.Configurable.{project-configurable}
use Rattle.hc_places.proofs.Founds.{found-all, suit-all}
use Rattle.hc_places.proofs.Widths.{areas-offer}

pub task-rows : (groups : List Declared) (task : ℕ)
    → flat_map (found_variables task (areas_by_rank groups)) (task_places task (line_from 1 groups)) ≡ task_variables (line_from 1 groups) task
task-rows groups task =
    let line = line_from 1 groups in
    found-all task (areas_by_rank groups) (task_areas task line) (task_places task line) (packed-areas empty_front (task_list task line)) (keys-name groups task)

-- and in a project's line each area that is found suits its place
pub task-suits : (groups : List Declared) → lowest_fault (groups_of groups) ≡ None → (task : ℕ)
    → All (IsFoundSuiting (areas_by_rank groups)) (task_places task (line_from 1 groups))
task-suits groups none task =
    let line = line_from 1 groups in
    let configurable = project-configurable groups none in
    suit-all (areas_by_rank groups) (task_areas task line) (task_places task line) (packed-areas empty_front (task_list task line)) (keys-name groups task)
    (areas-offer task line configurable.offers)
