use Rattle.std.proofs.Common.{◌≡◌, ◌==◌, drop}
use Rattle.std.specs.Prelude.{find}
use Rattle.hc_sendings.specs.Slots.{in_slots}
use Rattle.hc_sendings.proofs.further_writes.find_in.Given as goal

abbrev pub invariant-loop-write : goal.invariant-loop-write
invariant-loop-write l = find (λ write. write.serial == l.serial) (in_slots l.writes) ≡ find (λ write. write.serial == l.serial) (in_slots (drop l.write-index l.writes))
