use Rattle.hc_changes.proofs.lemmas.Tables.{untouched-table}
use Rattle.hc_changes.proofs.laws.untouched_tasks_stay.Goals as goal

pub returns : goal.returns
returns c old new task was is none = untouched-table old new task was is none
