use Rattle.std.proofs.Common.{◌≡◌, ◌+◌, ◌≤◌, length, drop}
use Rattle.hc_records.specs.declared.limits.TheConstants.{MOST_SLAVES}
use Rattle.hc_records.specs.Project.{slaves_of}
use Rattle.hc_records.proofs.conditions.ranges.has_many_slaves.Given as goal

-- those counted and those that are left are all, and those counted are no more than a project declares
abbrev pub invariant-loop-group : goal.invariant-loop-group
invariant-loop-group l = record {
  all : l.count + length (slaves_of (drop l.group-index l.groups)) ≡ length (slaves_of l.groups);
  few : l.count ≤ MOST_SLAVES;
}
