use Rattle.std.proofs.Common.{◌≡◌, ◌++◌, drop, map, take}
use Rattle.hc_sendings.specs.Slots.{writes_without}
use Rattle.hc_sendings.proofs.further_writes.end_each.Given as goal

abbrev pub invariant-loop-write : goal.invariant-loop-write
invariant-loop-write l = l.writes ≡ map (writes_without l.serial) (take l.write-index l.fn.writes) ++ drop l.write-index l.fn.writes
