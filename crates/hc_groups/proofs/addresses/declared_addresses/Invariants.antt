use Rattle.std.proofs.Common.{◌≡◌, ◌+◌, ◌++◌, drop, length}
use Rattle.std.specs.Prelude.{sum_by}
use Rattle.hc_records.specs.declared.records.Declared.{Declared}
use Rattle.hc_groups.specs.Index.{addresses}
use Rattle.hc_groups.proofs.Declaring.{addresses_from}
use Rattle.hc_groups.proofs.addresses.declared_addresses.Given as goal

abbrev pub invariant-loop-declared : goal.invariant-loop-declared
invariant-loop-declared l =
    let left = drop l.declared-index l.groups in
    (l.all.items ++ addresses_from l.rank left ≡ addresses l.groups)
    × (l.rank + sum_by (λ (d : Declared). length d.group.slaves) left ≡ 1 + sum_by (λ (d : Declared). length d.group.slaves) l.groups)
