-- A project's line, opened.
use Rattle.std.specs.Prelude.{◌≡◌, List, None}
use Rattle.hc_records.specs.declared.records.Area.{Area}
use Rattle.hc_records.specs.declared.records.Declared.{Declared}
use Rattle.hc_records.specs.Line.{groups_of}
use Rattle.hc_records.specs.Project.{lowest_fault}
use Rattle.hc_cuts.specs.Starts.{TaskCuts}
use Rattle.hc_cuts.specs.Areas.{areas_by_rank}
use Rattle.hc_cuts.specs.TaskCuts.{over_limit_from, line_cuts}

-- the slaves' areas are those of a project's groups, and the tasks are these areas'; none needs more than 16 datagrams
pub record AreOpened (slaves : List (List Area)) (cuts : List TaskCuts) : Type 0 where
  pub groups : List Declared
  pub project : lowest_fault (groups_of groups) ≡ None
  pub areas : slaves ≡ areas_by_rank groups
  pub accepted : over_limit_from 8 0 slaves ≡ None
  pub of_areas : cuts ≡ line_cuts slaves
