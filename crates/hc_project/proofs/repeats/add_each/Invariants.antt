use Rattle.std.proofs.Common.{◌≡◌, ◌++◌, drop}
use Rattle.hc_project.specs.Repeated.{each_at}
use Rattle.hc_project.proofs.repeats.add_each.Given as goal

-- the numbers added, and those of what is left, are all
abbrev pub invariant-loop-index : goal.invariant-loop-index
invariant-loop-index g l =
    l.list.items ++ each_at (g.L.Listed.lists l.place) l.index (drop l.index l.items)
    ≡ l.initial.list.items ++ each_at (g.L.Listed.lists l.place) 0 l.items
