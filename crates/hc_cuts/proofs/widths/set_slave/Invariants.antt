use Rattle.hc_cuts.specs.Widths.{IsSetTo}
use Rattle.hc_cuts.proofs.Setting.{with_areas}
use Rattle.hc_cuts.proofs.widths.set_slave.Given as goal

-- the widths of the areas so far are set
abbrev pub invariant-loop-area : goal.invariant-loop-area
invariant-loop-area l = IsSetTo l.fn.cuts l.cuts (with_areas l.task l.rank l.area l.new l.fn.cuts)
