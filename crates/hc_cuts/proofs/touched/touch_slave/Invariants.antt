use Rattle.hc_cuts.specs.Hulls.{TakeIn}
use Rattle.hc_cuts.proofs.Taking.{below}
use Rattle.hc_cuts.proofs.touched.touch_slave.Given as goal

-- the keys of the areas so far are taken in
abbrev pub invariant-loop-area : goal.invariant-loop-area
invariant-loop-area l = TakeIn l.fn.hulls l.hulls (below l.task l.rank l.area l.old l.new)
