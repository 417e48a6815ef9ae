use Rattle.std.proofs.Common.{◌≡◌, min, take}
use Rattle.hc_records.specs.declared.assignment.TheConstants.{WIDTH_CAP}
use Rattle.hc_records.specs.Project.{offered_bits}
use Rattle.hc_records.proofs.assignment.all_bits.Given as goal

abbrev pub invariant-loop-pdo : goal.invariant-loop-pdo
invariant-loop-pdo l = l.total ≡ min WIDTH_CAP (offered_bits (take l.pdo-index l.offered))
