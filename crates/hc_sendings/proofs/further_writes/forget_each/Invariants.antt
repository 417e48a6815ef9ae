use Rattle.std.proofs.Common.{◌≡◌, ◌++◌, drop, map, take}
use Rattle.hc_sendings.specs.Waiting.{left_forgotten}
use Rattle.hc_sendings.proofs.further_writes.forget_each.Given as goal

abbrev pub invariant-loop-write : goal.invariant-loop-write
invariant-loop-write l = l.writes ≡ map (left_forgotten l.station) (take l.write-index l.fn.writes) ++ drop l.write-index l.fn.writes
