use Rattle.std.proofs.Common.{◌≡◌, ◌≤◌, length, vec_capacity}
use Rattle.std.specs.Prelude.{map}
use Rattle.hc_images.specs.Packed.{sent_bytes}
use Rattle.hc_exchange.specs.Sent.{task_frames}
use Rattle.hc_exchange.proofs.sending.frames_of.Given as goal

abbrev pub invariant-loop-n : goal.invariant-loop-n
invariant-loop-n l =
    (map (λ frame. frame.items) l.frames.items ≡ task_frames l.serial l.task l.n (sent_bytes l.packed l.task))
    × (length l.frames.items ≡ l.n)
    × (l.count ≤ vec_capacity l.frames)
