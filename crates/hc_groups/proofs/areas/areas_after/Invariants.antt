use Rattle.std.proofs.Common.{◌≡◌, take}
use Rattle.hc_records.specs.Lists.{changed_at}
use Rattle.hc_groups.specs.Edits.{changed_area}
use Rattle.hc_groups.proofs.areas.areas_after.Given as goal

-- the areas so far
abbrev pub invariant-loop-i : goal.invariant-loop-i
invariant-loop-i l = l.after ≡ take l.i (changed_at l.edit.area (changed_area l.edit.change) l.areas)
