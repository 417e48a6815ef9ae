use Rattle.std.proofs.Common.{◌≡◌, map}
use Rattle.std.specs.List.{range_with_len}
use Rattle.hc_events.specs.Images.{slot_of}
use Rattle.hc_core.proofs.keeping.Core.slots.Given as goal

-- the slots so far are those of the first datagrams
abbrev pub invariant-loop-number : goal.invariant-loop-number
invariant-loop-number l = l.slots.items ≡ map (slot_of l.self.history l.task) (range_with_len 0 l.number)
