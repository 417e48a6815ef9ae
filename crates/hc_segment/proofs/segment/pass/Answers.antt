use Rattle.std.proofs.Common.{ap, sym, ◌∙◌, arith}
use Rattle.hc_machine.specs.Frames.{frame_after, memory_after}
use Rattle.hc_segment.proofs.Passing.{one-more}
use Rattle.hc_segment.proofs.segment.pass.Goals as goal

pub loop-machine-preserved : goal.loop-machine-preserved
loop-machine-preserved c =
    let l = c.loop-machine in
    let next = one-more l.machine-index c.args.machines.now l.machines c.args.frame.now l.frame c.process_readable.new.frame c.machine-item.result c.process_readable.new.self
    (omega arith) l.invariant.0 l.invariant.1 c.machine-item.is
    (c.process_readable.ensures.memory ∙ ap (λ m. memory_after m l.frame) (sym c.machine-item.is)) (c.process_readable.ensures.frame ∙ ap (λ m. frame_after m l.frame) (sym c.machine-item.is)) in
    (next.0, next.1, c.process_readable.ensures.readable)
