use Rattle.std.proofs.Common.{◌≡◌, drop}
use Rattle.std.specs.List.{list_any}
use Rattle.hc_sendings.specs.Slots.{in_slots}
use Rattle.hc_sendings.specs.Waiting.{carries_newest}
use Rattle.hc_sendings.proofs.further_writes.any_carries.Given as goal

abbrev pub invariant-loop-write : goal.invariant-loop-write
invariant-loop-write l = list_any (carries_newest l.station l.number) (in_slots l.writes) ≡ list_any (carries_newest l.station l.number) (in_slots (drop l.write-index l.writes))
