use Rattle.std.proofs.Common.{◌≡◌, ◌++◌, drop}
use Rattle.std.specs.Prelude.{map}
use Rattle.hc_groups.specs.Index.{block_sums}
use Rattle.hc_groups.proofs.sums.group_fronts.Given as goal

abbrev pub invariant-loop-declared : goal.invariant-loop-declared
invariant-loop-declared l = map (λ sums. sums.items) l.fronts.items ++ map block_sums (drop l.declared-index l.groups) ≡ map block_sums l.groups
