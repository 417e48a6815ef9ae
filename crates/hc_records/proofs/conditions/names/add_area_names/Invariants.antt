use Rattle.std.proofs.Common.{◌≡◌, ◌++◌, drop}
use Rattle.hc_records.specs.Project.{area_names}
use Rattle.hc_records.proofs.conditions.names.add_area_names.Given as goal

-- the variables found, and those of what is left, are all
abbrev pub invariant-loop-area : goal.invariant-loop-area
invariant-loop-area l = l.names.items ++ area_names (drop l.area-index l.areas) ≡ l.initial.names.items ++ area_names l.areas
