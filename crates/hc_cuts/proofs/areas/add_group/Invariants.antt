use Rattle.std.proofs.Common.{◌≡◌, ◌++◌, [], drop}
use Rattle.std.specs.Prelude.{if◌then◌else◌, map}
use Rattle.hc_cuts.specs.Areas.{present_areas}
use Rattle.hc_cuts.proofs.areas.add_group.Given as goal

-- the slaves so far, and those that are left of the group
abbrev pub invariant-loop-slave : goal.invariant-loop-slave
invariant-loop-slave l =
    l.slaves.items ++ map (λ slave. if l.declared.present then slave.areas else []) (drop l.slave-index l.slave-items) ≡ l.fn.slaves.items ++ present_areas l.declared
