use Rattle.std.proofs.Common.{◌≡◌, drop}
use Rattle.hc_project.specs.Places.{first_from}
use Rattle.hc_project.specs.Repeated.{assigned_wide}
use Rattle.hc_project.proofs.searches.find_wide.Given as goal

-- with the indexes passed the area isn't too wide
abbrev pub invariant-loop-index : goal.invariant-loop-index
invariant-loop-index l =
    first_from (assigned_wide l.area l.place) 0 l.assigned
    ≡ first_from (assigned_wide l.area l.place) l.index (drop l.index l.assigned)
