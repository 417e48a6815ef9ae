-- The place of an area by a layout of a line is that by the areas of the line.
use Rattle.std.specs.Prelude.{find, option_and_then, option_map, slice_get, Some}
use Rattle.std.proofs.Common.{◌≡◌, ℕ, ◌<◌, List, sym, ap, ◌∙◌, arith}
use Rattle.std.proofs.lemmas.Option.{slice_get-map}
use Rattle.hc_records.specs.declared.keys.Key.{Key}
use Rattle.hc_records.specs.declared.limits.TheConstants.{TASKS}
use Rattle.hc_records.specs.declared.records.Declared.{Declared}
use Rattle.hc_records.specs.Image.{task_places, tasks}
use Rattle.hc_records.specs.Keys.{same_key}
use Rattle.hc_records.specs.Line.{Member, line_from}
use Rattle.hc_records.specs.Packing.{Placed}
use Rattle.hc_cuts.specs.Place.{place_of}
use Rattle.hc_cuts.specs.Areas.{areas_by_rank, list_by}
use Rattle.hc_cuts.proofs.lemmas.AnswerGiven.{place-answer_given}
use Rattle.hc_places.specs.Layout.{layout_of, placed_in}

-- a layout's place of a key in a task is its place in the task's list

pub task-at : (task : ℕ) → task < TASKS → slice_get tasks task ≡ Some task
task-at task below = grind arith

pub placed-in-line : (members : List Member) (task : ℕ) (key : Key) → task < TASKS
    → placed_in (layout_of members) task key ≡ find (λ placed. same_key placed.key key) (task_places task members)
placed-in-line members task key below =
    ap (option_and_then (find (λ (placed : Placed). same_key placed.key key)))
    (slice_get-map (λ t. task_places t members) tasks task ∙ ap (option_map (λ t. task_places t members)) (task-at task below))

-- so the areas of a line say what its layout does
pub placed-answer_given : (groups : List Declared) (task : ℕ) (key : Key) → task < TASKS
    → place_of key (list_by task (areas_by_rank groups)) ≡ placed_in (layout_of (line_from 1 groups)) task key
placed-answer_given groups task key below = place-answer_given groups task key ∙ sym (placed-in-line (line_from 1 groups) task key below)
