use Rattle.std.proofs.Common.{◌≡◌, ◌++◌, drop}
use Rattle.std.specs.List.{flat_map}
use Rattle.hc_cuts.specs.Areas.{areas_by_rank, present_areas}
use Rattle.hc_cuts.proofs.areas.areas_by_rank.Given as goal

-- the slaves so far, and those of the groups that are left
abbrev pub invariant-loop-declared : goal.invariant-loop-declared
invariant-loop-declared l = l.slaves.items ++ flat_map present_areas (drop l.declared-index l.groups) ≡ areas_by_rank l.groups
