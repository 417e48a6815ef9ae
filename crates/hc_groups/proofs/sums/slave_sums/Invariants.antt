use Rattle.std.proofs.Common.{◌≡◌, ◌+◌, ◌++◌, drop}
use Rattle.hc_groups.specs.Index.{block_sum, slave_block_count, sums_from}
use Rattle.hc_groups.proofs.sums.slave_sums.Given as goal

abbrev pub invariant-loop-slave : goal.invariant-loop-slave
invariant-loop-slave l =
    let left = drop l.slave-index l.slaves in
    (l.sums.items ++ sums_from slave_block_count l.blocks left ≡ sums_from slave_block_count 0 l.slaves) × (l.blocks + block_sum left ≡ block_sum l.slaves)
