use Rattle.std.proofs.Common.{◌≡◌, ◌++◌, drop}
use Rattle.hc_project.specs.Repeated.{each_at, extent_at}
use Rattle.hc_project.proofs.searches.extents.Given as goal

-- the areas listed, and those that are left, are all
abbrev pub invariant-loop-index : goal.invariant-loop-index
invariant-loop-index l =
    l.list.items ++ each_at (extent_at l.place) l.index (drop l.index l.areas) ≡ each_at (extent_at l.place) 0 l.areas
