use Rattle.std.proofs.Common.{◌≡◌, ◌<◌, ℕ, get_or, length}
use Rattle.hc_images.specs.Image.{HasAllSlots}
use Rattle.hc_images.specs.inner.Used.{NoneAfter}
use Rattle.hc_images.proofs.inputs.clear_used.Given as goal

-- no datagram of the tasks so far may have data
abbrev pub invariant-loop-task : goal.invariant-loop-task
invariant-loop-task l = record {
  size : HasAllSlots l.slots;
  eight : length l.used ≡ 8;
  rest : NoneAfter l.used l.slots;
  zero : (t : ℕ) → t < l.task → get_or l.used t 0 ≡ 0;
}
