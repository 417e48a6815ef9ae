use Rattle.hc_records.proofs.lemmas.TaskLists.{project-list}
use Rattle.hc_records.proofs.laws.projects_have_task_lists.Goals as goal

pub returns : goal.returns
returns c = project-list
