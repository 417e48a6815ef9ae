use Rattle.std.proofs.Common.{◌≡◌, ◌++◌, drop}
use Rattle.std.specs.List.{flat_map}
use Rattle.hc_records.specs.Area.{entries_at}
use Rattle.hc_records.specs.Project.{entry_names}
use Rattle.hc_changes.specs.Rows.{area_variables_of}
use Rattle.hc_changes.proofs.rows.add_area_variables.Given as goal

abbrev pub invariant-loop-index : goal.invariant-loop-index
invariant-loop-index l =
    l.variables.items ++ entry_names (flat_map (entries_at l.area.offered) (drop l.index-index l.area.assigned)) ≡ l.fn.variables.items ++ area_variables_of l.area
