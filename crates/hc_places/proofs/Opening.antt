-- The tasks of a project's line, opened, and the table that is made of them.
use Rattle.std.proofs.Common.{◌≡◌, ◌∙◌, ℕ, ◌+◌, ◌-◌, ◌<◌, ◌≤◌, List, [], ◌∷◌, ◌++◌, None, refl, sym, ap, subst, arith, append_assoc, append-nil}
use Rattle.std.specs.Prelude.{map}
use Rattle.std.specs.List.{flat_map, range_with_len}
use Rattle.hc_records.specs.declared.records.Area.{Area}
use Rattle.hc_records.specs.declared.records.Declared.{Declared}
use Rattle.hc_records.specs.Edits.{over_limit_task}
use Rattle.hc_records.specs.Image.{task_variables, tasks}
use Rattle.hc_records.specs.Line.{Member, groups_of, line_from}
use Rattle.hc_records.specs.Packing.{Placed, empty_front, packed}
use Rattle.hc_records.specs.Project.{lowest_fault}
use Rattle.hc_cuts.specs.Starts.{TaskCuts}
use Rattle.hc_cuts.specs.Areas.{areas_by_rank, list_by}
use Rattle.hc_cuts.specs.TaskCuts.{IsProjectLine, over_limit_from, line_cuts}
use Rattle.hc_cuts.proofs.lemmas.Projects.{line-over_limit, project-line}
use Rattle.hc_places.specs.Opened.{AreOpened}
use Rattle.hc_places.specs.Table.{VariableRow, TaskTable, by_number, table_of, task_table}
use Rattle.hc_places.proofs.Founds.{IsTask, unchanged-task}

pub is-line : (groups : List Declared) (slaves : List (List Area)) → slaves ≡ areas_by_rank groups → lowest_fault (groups_of groups) ≡ None → IsProjectLine slaves
is-line groups slaves is none = subst (λ (s : List (List Area)). IsProjectLine s) (sym is) (project-line groups none)

-- what is over its limit, by the line and by the areas of its slaves
pub same-over_limit : (groups : List Declared) (slaves : List (List Area)) → slaves ≡ areas_by_rank groups → over_limit_task (line_from 1 groups) ≡ over_limit_from 8 0 slaves
same-over_limit groups slaves is = line-over_limit groups ∙ ap (λ (s : List (List Area)). over_limit_from 8 0 s) (sym is)

-- the areas by rank, taken out a second time
abbrev pub are-opened : (groups : List Declared) (slaves again : List (List Area)) (cuts : List TaskCuts) → lowest_fault (groups_of groups) ≡ None
    → slaves ≡ areas_by_rank groups → again ≡ areas_by_rank groups → over_limit_from 8 0 slaves ≡ None → cuts ≡ line_cuts slaves → AreOpened again cuts
are-opened groups slaves again cuts none is same accepted unchanged = record {
  groups = groups;
  project = none;
  areas = same;
  accepted = ap (λ (s : List (List Area)). over_limit_from 8 0 s) (same ∙ sym is) ∙ accepted;
  of_areas = unchanged ∙ ap (λ (s : List (List Area)). line_cuts s) (is ∙ sym same);
}

pub opened-task : (slaves : List (List Area)) (unchanged : List TaskCuts) (opened : AreOpened slaves unchanged) (task : ℕ) (places : List Placed) → task < 8
    → ((line : List (List Area)) → unchanged ≡ line_cuts line → places ≡ packed empty_front (list_by task line)) → IsTask opened.groups task places
opened-task slaves unchanged opened task places low answer_given =
    unchanged-task opened.groups task places low opened.project (same-over_limit opened.groups slaves opened.areas ∙ opened.accepted)
    (answer_given (areas_by_rank opened.groups) (opened.of_areas ∙ ap (λ (s : List (List Area)). line_cuts s) opened.areas))

pub table-made : (line : List Member) (tables : List TaskTable) (rows : List VariableRow) → tables ≡ map (task_table line) tasks → rows ≡ flat_map (task_variables line) tasks
    → record { tasks = tables; variables = by_number rows } ≡ table_of line
table-made line tables rows first second = rw (first, second) refl

-- the eight tasks, one after another: those from one on
abbrev pub tasks_from : ℕ → List ℕ
tasks_from task = range_with_len task (8 - task)

tasks-next : (task : ℕ) → task < 8 → tasks_from task ≡ task ∷ tasks_from (task + 1)
tasks-next task low = grind arith

tasks-none : (task : ℕ) → 8 ≤ task → tasks_from task ≡ []
tasks-none task high = grind arith

pub map-next : {X : Type 0} (f : ℕ → X) (task : ℕ) (done more all : List X) → task < 8 → more ≡ done ++ f task ∷ []
    → done ++ map f (tasks_from task) ≡ all → more ++ map f (tasks_from (task + 1)) ≡ all
map-next f task done more all low adds so_far = grind (arith, append_assoc, tasks-next)

pub flat_map-next : {X : Type 0} (f : ℕ → List X) (task : ℕ) (done more all : List X) → task < 8 → more ≡ done ++ f task
    → done ++ flat_map f (tasks_from task) ≡ all → more ++ flat_map f (tasks_from (task + 1)) ≡ all
flat_map-next f task done more all low adds so_far = grind (arith, append_assoc, tasks-next)

pub map-last : {X : Type 0} (f : ℕ → X) (task : ℕ) (done all : List X) → 8 ≤ task → done ++ map f (tasks_from task) ≡ all → done ≡ all
map-last f task done all high so_far = sym (append-nil done) ∙ ap (λ tasks. done ++ map f tasks) (sym (tasks-none task high)) ∙ so_far

pub flat_map-last : {X : Type 0} (f : ℕ → List X) (task : ℕ) (done all : List X) → 8 ≤ task → done ++ flat_map f (tasks_from task) ≡ all → done ≡ all
flat_map-last f task done all high so_far = sym (append-nil done) ∙ ap (λ tasks. done ++ flat_map f tasks) (sym (tasks-none task high)) ∙ so_far
