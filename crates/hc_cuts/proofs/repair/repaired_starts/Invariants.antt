use Rattle.std.proofs.Common.{◌+◌, ◌*◌, ◌-◌, ◌≤◌, length}
use Rattle.hc_records.specs.declared.limits.TheConstants.{MOST_DATAGRAMS}
use Rattle.hc_bitsum.specs.Tree.{CanBegin}
use Rattle.hc_cuts.specs.Starts.{most_read}
use Rattle.hc_cuts.proofs.Chain.{IsPlaced}
use Rattle.hc_cuts.proofs.Counted.{Counts}
use Rattle.hc_cuts.proofs.repair.repaired_starts.Given as goal

-- the boundaries so far, the key of the last of them, the spans counted, and the steps of the searches
abbrev pub invariant-spans : goal.invariant-spans
invariant-spans g l = record {
  is_placed : IsPlaced l.task l.starts.items l.from;
  begins : CanBegin l.task.slaves l.from;
  counts : Counts l.hulls l.old l.task l.from l.count;
  some : l.count + 1 ≤ length l.starts.items;
  few : length l.starts.items ≤ MOST_DATAGRAMS;
  least : l.fn.steps + l.count ≤ l.steps;
  most : l.steps ≤ l.fn.steps + most_read * l.count;
}

abbrev pub decreases-spans : goal.decreases-spans
decreases-spans g l = MOST_DATAGRAMS - length l.starts.items
