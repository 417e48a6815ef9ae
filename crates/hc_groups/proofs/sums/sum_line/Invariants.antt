use Rattle.std.proofs.Common.{◌≡◌, ◌+◌, ◌++◌, drop, length, vec_capacity}
use Rattle.std.specs.Prelude.{sum_by}
use Rattle.hc_groups.specs.Index.{own_sum, present_count, sums_from}
use Rattle.hc_groups.proofs.sums.sum_line.Given as goal

abbrev pub invariant-loop-declared : goal.invariant-loop-declared
invariant-loop-declared l =
    let left = drop l.declared-index l.groups in
    (l.slaves.items ++ sums_from present_count l.line left ≡ sums_from present_count 0 l.groups)
    × (l.blocks.items ++ sums_from own_sum l.line_blocks left ≡ sums_from own_sum 0 l.groups)
    × (l.line + sum_by present_count left ≡ sum_by present_count l.groups)
    × (l.line_blocks + sum_by own_sum left ≡ sum_by own_sum l.groups)
    × (l.group ≡ l.declared-index)
    × (length l.slaves.items ≡ l.declared-index)
    × (length l.blocks.items ≡ l.declared-index)
    × (vec_capacity l.slaves ≡ vec_capacity l.initial.slaves)
    × (vec_capacity l.blocks ≡ vec_capacity l.initial.blocks)
