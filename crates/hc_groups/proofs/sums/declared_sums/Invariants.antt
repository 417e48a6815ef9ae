use Rattle.std.proofs.Common.{◌≡◌, ◌+◌, ◌++◌, drop}
use Rattle.std.specs.Prelude.{sum_by}
use Rattle.hc_groups.specs.Index.{declared_count, sums_from}
use Rattle.hc_groups.proofs.sums.declared_sums.Given as goal

abbrev pub invariant-loop-declared : goal.invariant-loop-declared
invariant-loop-declared l =
    let left = drop l.declared-index l.groups in
    (l.ranks.items ++ sums_from declared_count l.declared_slaves left ≡ sums_from declared_count 0 l.groups)
    × (l.declared_slaves + sum_by declared_count left ≡ sum_by declared_count l.groups)
