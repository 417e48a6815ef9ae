use Rattle.std.proofs.Common.{◌≡◌, min, take}
use Rattle.std.specs.List.{flat_map}
use Rattle.hc_records.specs.declared.assignment.TheConstants.{WIDTH_CAP}
use Rattle.hc_records.specs.Area.{entry_bits, entries_at}
use Rattle.hc_records.proofs.assignment.assigned_bits.Given as goal

abbrev pub invariant-loop-index : goal.invariant-loop-index
invariant-loop-index l = l.total ≡ min WIDTH_CAP (entry_bits (flat_map (entries_at l.offered) (take l.index-index l.indexes)))
