-- An edit of a plan that is worked out, before anything changes.
use Rattle.std.specs.Prelude.{◌≡◌, List, None, Ok}
use Rattle.hc_records.specs.Edits.{over_limit_task, edited}
use Rattle.hc_records.specs.Line.{State, groups_of, line}
use Rattle.hc_records.specs.Project.{lowest_fault}
use Rattle.hc_registers.specs.declared.ranked.Gone.{Gone}
use Rattle.hc_registers.specs.Ranked.{RankedBlock, moved_ranked}
use Rattle.hc_registers.specs.RankDifferences.{Differ}
use Rattle.hc_registers.specs.RankPlaces.{places}
use Rattle.hc_plan.specs.declared.report.Report.{Report}
use Rattle.hc_plan.specs.Reports.{ReportsEdit}

-- the state before an edit and the one that it makes, its report, the slaves that leave the line, and the blocks that move, with their ranks
pub record PreparedEdit : Type 0 where
  pub old : State
  pub new : State
  pub report : Report
  pub gone : Gone
  pub blocks : List RankedBlock

-- an accepted edit of a project's line, and how the line that it makes differs
pub record IsPrepared (prepared : PreparedEdit) : Type 0 where
  pub project : lowest_fault (groups_of prepared.old.groups) ≡ None
  pub accepted : edited prepared.old prepared.report.swap.edit ≡ Ok prepared.new
  pub reported : ReportsEdit prepared.old prepared.report.swap.edit prepared.new prepared.report
  pub crowds : (over_limit_task (line prepared.old) ≡ None) × (over_limit_task (line prepared.new) ≡ None)
  pub blocks : prepared.blocks ≡ moved_ranked (line prepared.old) (line prepared.new)
  pub differ : Differ (places prepared.old) (places prepared.new) prepared.gone prepared.blocks
