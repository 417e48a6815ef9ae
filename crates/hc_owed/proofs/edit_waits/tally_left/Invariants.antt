use Rattle.std.proofs.Common.{◌-◌}
use Rattle.hc_owed.specs.declared.area.Turn.TheVariants.{Left}
use Rattle.hc_owed.specs.Areas.{area_after}
use Rattle.hc_owed.specs.ReadinessSteps.{changed_from}
use Rattle.hc_owed.specs.Tally.{Tallies}
use Rattle.hc_owed.proofs.edit_waits.tally_left.Given as goal

-- the areas before the present one are counted as they are after the slaves left
abbrev pub invariant-loop-n : goal.invariant-loop-n
invariant-loop-n l = Tallies (changed_from (area_after Left) l.from (l.n - l.from) l.areas) l.tally
