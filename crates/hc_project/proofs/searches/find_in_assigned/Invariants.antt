use Rattle.std.proofs.Common.{◌≡◌, drop}
use Rattle.hc_project.specs.Places.{first_from}
use Rattle.hc_project.specs.Repeated.{assigned_unknown}
use Rattle.hc_project.proofs.searches.find_in_assigned.Given as goal

-- nothing was found at the indexes passed
abbrev pub invariant-loop-index : goal.invariant-loop-index
invariant-loop-index l =
    first_from (assigned_unknown l.area l.place) 0 l.assigned
    ≡ first_from (assigned_unknown l.area l.place) l.index (drop l.index l.assigned)
