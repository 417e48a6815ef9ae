use Rattle.std.proofs.Common.{◌≡◌, ◌≤◌, ◌++◌, reverse, vec_len, vec_capacity}
use Rattle.hc_segment.specs.Line.{all_machines}
use Rattle.hc_segment.proofs.changing.gathered.Given as goal

abbrev pub invariant-loop-segment : goal.invariant-loop-segment
invariant-loop-segment l = record {
  moved : l.all.items ++ all_machines (reverse l.segments.items) ≡ all_machines l.fn.segments.items;
  room : vec_capacity l.fn.room ≤ vec_capacity l.all;
}

abbrev pub decreases-loop-segment : goal.decreases-loop-segment
decreases-loop-segment l = vec_len l.segments
