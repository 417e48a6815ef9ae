use Rattle.std.proofs.Common.{◌≡◌, ◌++◌, drop, map, take}
use Rattle.hc_sendings.specs.Slots.{none_of}
use Rattle.hc_sendings.proofs.further_writes.clear_each.Given as goal

abbrev pub invariant-loop-write : goal.invariant-loop-write
invariant-loop-write l = l.writes ≡ map none_of (take l.write-index l.fn.writes) ++ drop l.write-index l.fn.writes
