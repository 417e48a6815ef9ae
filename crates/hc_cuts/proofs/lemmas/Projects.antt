-- The areas of the slaves of a project's groups, and of those that an edit leaves.
use Rattle.std.specs.Prelude.{All, None, filter, find, map, nat_lt, sum_by}
use Rattle.std.proofs.Common.{◌≡◌, ℕ, ◌+◌, Bool, List, [], ◌∷◌, length, refl, sym, ap, subst, ◌∙◌, arith, if◌then◌else◌, length-append}
use Rattle.std.proofs.lemmas.List.Elements.{All-append, All-cons, All-head, All-nil, All-tail}
use Rattle.std.proofs.lemmas.List.Sums.{sum_by-cons}
use Rattle.hc_records.specs.declared.records.Slave.{Slave}
use Rattle.hc_records.specs.declared.records.Declared.{Declared}
use Rattle.hc_records.specs.Boundaries.{is_touched_task, recut, touched, unsettled_spans}
use Rattle.hc_records.specs.Edits.{over_limit_task}
use Rattle.hc_records.specs.Image.{tasks}
use Rattle.hc_records.specs.Limits.{IsSlaveInside}
use Rattle.hc_records.specs.Line.{State, groups_of, line_from}
use Rattle.hc_records.specs.Project.{lowest_fault}
use Rattle.hc_records.specs.SpanLaws.{IsTaskList}
use Rattle.hc_records.specs.TaskList.{Keyed, task_list}
use Rattle.hc_records.proofs.lemmas.Limits.{project-inside}
use Rattle.hc_records.proofs.lemmas.Lines.{declared_slaves, each-group}
use Rattle.hc_records.proofs.lemmas.Projects.{project-few}
use Rattle.hc_records.proofs.lemmas.TaskLists.{project-list}
use Rattle.hc_cuts.specs.Areas.{areas_by_rank, list_by, present_areas}
use Rattle.hc_cuts.specs.TaskCuts.{IsProjectLine, over_limit_from}
use Rattle.hc_cuts.specs.Recut.{recut_by, recut_from}
use Rattle.hc_cuts.specs.Widths.{AreBounded}
use Rattle.hc_cuts.proofs.lemmas.AnswerGiven.{length-present, task-listed}

-- a slave's areas, or none

slave-unchanged : (present : Bool) (slave : Slave) → IsSlaveInside slave → AreBounded (if present then slave.areas else [])
slave-unchanged present slave inside = grind arith

group-unchanged : (present : Bool) (slaves : List Slave) → All IsSlaveInside slaves → All AreBounded (map (λ slave. if present then slave.areas else []) slaves)
group-unchanged present [] all = All-nil AreBounded
group-unchanged present (slave ∷ slaves) all =
    grind (arith, All-cons, slave-unchanged, All-head, All-tail, group-unchanged present slaves (All-tail IsSlaveInside slave slaves all))

groups-unchanged : (groups : List Declared) → All (λ declared. All IsSlaveInside declared.group.slaves) groups → All AreBounded (areas_by_rank groups)
groups-unchanged [] all = All-nil AreBounded
groups-unchanged (declared ∷ groups) all =
    All-append AreBounded (present_areas declared) (areas_by_rank groups)
    (group-unchanged declared.present declared.group.slaves (All-head (λ d. All IsSlaveInside d.group.slaves) declared groups all))
    (groups-unchanged groups (All-tail (λ d. All IsSlaveInside d.group.slaves) declared groups all))

-- as many as are declared
ranks-declared : (groups : List Declared) → length (areas_by_rank groups) ≡ length (declared_slaves groups)
ranks-declared [] = refl
ranks-declared (declared ∷ groups) =
    length-append (present_areas declared) (areas_by_rank groups)
    ∙ ap (λ (n : ℕ). n + length (areas_by_rank groups)) (length-present declared.present declared.group.slaves)
    ∙ ap (λ (n : ℕ). length declared.group.slaves + n) (ranks-declared groups)
    ∙ sym (length-append declared.group.slaves (declared_slaves groups))

-- the line of a project's groups is one
pub project-line : (groups : List Declared) → lowest_fault (groups_of groups) ≡ None → IsProjectLine (areas_by_rank groups)
project-line groups none = record {
  few = let few = project-few (groups_of groups) none in let many = ranks-declared groups in omega (arith, few, many);
  bounded = groups-unchanged groups (each-group IsSlaveInside groups (project-inside (groups_of groups) none).slaves);
  lists = λ task.
      let state : State = record { groups = groups; epoch = 0 } in
      subst (λ (list : List Keyed). IsTaskList list) (task-listed task groups) (project-list state task none);
}

-- the lowest task over the limit of the line

find-same : (p q : ℕ → Bool) → ((task : ℕ) → p task ≡ q task) → (list : List ℕ) → find p list ≡ find q list
find-same p q same [] = refl
find-same p q same (task ∷ list) = grind (arith, find-same p q same list)

pub line-over_limit : (groups : List Declared) → over_limit_task (line_from 1 groups) ≡ over_limit_from 8 0 (areas_by_rank groups)
line-over_limit groups = grind (arith, find-same, task-listed)

-- what is recut of each task

abbrev total : (ℕ → ℕ) → List ℕ → ℕ
total f [] = 0
total f (task ∷ tasks) = f task + total f tasks

added-by : (f : ℕ → ℕ) (task : ℕ) (rest : List ℕ) (passes : Bool) → sum_by f (if passes then task ∷ rest else rest) ≡ (if passes then f task else 0) + sum_by f rest
added-by f task rest passes = grind (arith, sum_by-cons)

sum-same : (f g : ℕ → ℕ) (passes : ℕ → Bool) → ((task : ℕ) → (if passes task then f task else 0) ≡ g task) → (list : List ℕ) → sum_by f (filter passes list) ≡ total g list
sum-same f g passes same [] = refl
sum-same f g passes same (task ∷ list) = grind (arith, added-by, sum-same f g passes same list)

abbrev list_recut : List Keyed → List Keyed → ℕ
list_recut old new = if nat_lt 0 (length (touched old new)) then unsettled_spans old new else 0

pub line-recut : (old new : List Declared) → recut (line_from 1 old) (line_from 1 new) ≡ recut_from 8 0 (areas_by_rank old) (areas_by_rank new)
line-recut old new =
    sum-same (λ task. unsettled_spans (task_list task (line_from 1 old)) (task_list task (line_from 1 new))) (λ task. recut_by task (areas_by_rank old) (areas_by_rank new))
    (is_touched_task (line_from 1 old) (line_from 1 new))
    (λ task.
    ap (λ (list : List Keyed). list_recut list (task_list task (line_from 1 new))) (task-listed task old)
    ∙ ap (list_recut (list_by task (areas_by_rank old))) (task-listed task new)) tasks

-- an edit declares no slave
