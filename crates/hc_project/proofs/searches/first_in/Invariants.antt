use Rattle.std.proofs.Common.{◌≡◌, drop}
use Rattle.hc_project.specs.Places.{first_from}
use Rattle.hc_project.proofs.searches.first_in.Given as goal

-- nothing was found in the items passed
abbrev pub invariant-loop-index : goal.invariant-loop-index
invariant-loop-index g l =
    first_from (g.S.Sought.finds l.place) 0 l.items ≡ first_from (g.S.Sought.finds l.place) l.index (drop l.index l.items)
