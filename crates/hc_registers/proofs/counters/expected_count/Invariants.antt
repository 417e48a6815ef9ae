use Rattle.std.proofs.Common.{◌≡◌, ◌*◌, ◌≤◌, sum_by, take}
use Rattle.hc_records.specs.Image.{counter_share}
use Rattle.hc_registers.proofs.counters.expected_count.Given as goal

abbrev pub invariant-loop-rank : goal.invariant-loop-rank
invariant-loop-rank l = record {
  total : l.total ≡ sum_by (counter_share l.keys) (take l.rank-index l.ranks);
  low : l.total ≤ 3 * l.rank-index;
}
