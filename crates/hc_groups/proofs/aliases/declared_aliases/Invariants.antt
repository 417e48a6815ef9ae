use Rattle.std.proofs.Common.{◌≡◌, ◌++◌, drop}
use Rattle.std.specs.Prelude.{map}
use Rattle.std.specs.List.{enumerate_from}
use Rattle.hc_groups.specs.Index.{alias_of, aliases}
use Rattle.hc_groups.proofs.aliases.declared_aliases.Given as goal

abbrev pub invariant-loop-declared : goal.invariant-loop-declared
invariant-loop-declared l =
    (l.all.items ++ map alias_of (enumerate_from l.group (drop l.declared-index l.groups)) ≡ aliases l.groups)
    × (l.group ≡ l.declared-index)
