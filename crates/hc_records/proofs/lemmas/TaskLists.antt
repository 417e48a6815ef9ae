-- The lists of the tasks of a project's line.
use Rattle.std.proofs.Common.{◌≡◌, ℕ, None}
use Rattle.hc_records.specs.Line.{State, groups_of, line}
use Rattle.hc_records.specs.TaskList.{task_list}
use Rattle.hc_records.specs.Project.{lowest_fault}
use Rattle.hc_records.specs.SpanLaws.{IsTaskList}
use Rattle.hc_records.proofs.lemmas.Ascending.{keys-above-start, keys-ascend, keys-below-end}
use Rattle.hc_records.proofs.lemmas.Packable.{project-packable}
use Rattle.hc_records.proofs.lemmas.Projects.{project-few}

pub project-list : (state : State) (task : ℕ) → lowest_fault (groups_of state.groups) ≡ None → IsTaskList (task_list task (line state))
project-list state task none = record {
  packable = project-packable state task none;
  ascends = keys-ascend state task;
  between = record { above = keys-above-start state task; below = keys-below-end state task (project-few (groups_of state.groups) none) };
}
