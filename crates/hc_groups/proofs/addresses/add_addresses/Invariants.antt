use Rattle.std.proofs.Common.{◌≡◌, ◌+◌, ◌++◌, drop, map}
use Rattle.hc_records.specs.Line.{members_from}
use Rattle.hc_groups.specs.Index.{address_of}
use Rattle.hc_groups.proofs.addresses.add_addresses.Given as goal

abbrev pub invariant-loop-slave : goal.invariant-loop-slave
invariant-loop-slave l =
    (l.all.items ++ map address_of (members_from l.next (drop l.slave-index l.slaves)) ≡ l.initial.all.items ++ map address_of (members_from l.rank l.slaves))
    × (l.next ≡ l.rank + l.slave-index)
