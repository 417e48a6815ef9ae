use Rattle.std.proofs.Common.{◌≡◌, drop}
use Rattle.hc_records.specs.Area.{entries_at}
use Rattle.hc_records.proofs.assignment.offered_entries.Given as goal

-- the PDOs passed have other indexes
abbrev pub invariant-loop-pdo : goal.invariant-loop-pdo
invariant-loop-pdo l = entries_at l.offered l.index ≡ entries_at (drop l.pdo-index l.offered) l.index
