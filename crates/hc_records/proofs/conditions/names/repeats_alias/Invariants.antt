use Rattle.std.proofs.Common.{◌≡◌, map, take}
use Rattle.hc_records.proofs.conditions.names.repeats_alias.Given as goal

abbrev pub invariant-loop-group : goal.invariant-loop-group
invariant-loop-group l = l.aliases.items ≡ map (λ group. group.alias) (take l.group-index l.groups)
