use Rattle.std.proofs.Common.{◌≡◌, ◌++◌, drop, map, take}
use Rattle.hc_sendings.specs.Waiting.{awaited_block, left_after}
use Rattle.hc_sendings.proofs.further_writes.retire_each.Given as goal

abbrev pub invariant-loop-write : goal.invariant-loop-write
invariant-loop-write l = l.writes ≡ map (left_after (map awaited_block l.again) l.is_over) (take l.write-index l.fn.writes) ++ drop l.write-index l.fn.writes
