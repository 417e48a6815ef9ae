use Rattle.std.proofs.Common.{◌≡◌, ◌++◌, drop}
use Rattle.hc_records.specs.Project.{pdo_names}
use Rattle.hc_records.proofs.conditions.names.add_pdo_names.Given as goal

-- the variables found, and those of what is left, are all
abbrev pub invariant-loop-pdo : goal.invariant-loop-pdo
invariant-loop-pdo l = l.names.items ++ pdo_names (drop l.pdo-index l.pdos) ≡ l.initial.names.items ++ pdo_names l.pdos
