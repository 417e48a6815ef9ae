use Rattle.std.proofs.Common.{◌≡◌, min, take}
use Rattle.hc_records.specs.declared.assignment.TheConstants.{WIDTH_CAP}
use Rattle.hc_records.specs.Area.{entry_bits}
use Rattle.hc_records.proofs.assignment.capped_bits.Given as goal

abbrev pub invariant-loop-entry : goal.invariant-loop-entry
invariant-loop-entry l = l.total ≡ min WIDTH_CAP (entry_bits (take l.entry-index l.entries))
