use Rattle.std.proofs.Common.{◌≡◌, ◌++◌, drop}
use Rattle.std.specs.List.{flat_map}
use Rattle.hc_places.specs.Found.{found_variables}
use Rattle.hc_places.proofs.variables.add_found.Given as goal

-- the rows so far, and those of the places that are left
abbrev pub invariant-loop-placed : goal.invariant-loop-placed
invariant-loop-placed l =
    l.rows.items ++ flat_map (found_variables l.task l.slaves) (drop l.placed-index l.places) ≡ l.fn.rows.items ++ flat_map (found_variables l.task l.slaves) l.places
