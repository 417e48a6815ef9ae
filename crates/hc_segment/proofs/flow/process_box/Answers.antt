use Rattle.std.proofs.Common.{◌≡◌, length, ap, ◌∙◌, arith}
use Rattle.std.proofs.lemmas.List.{take_at}
use Rattle.hc_segment.specs.Line.{frame_through, machines_after_frame}
use Rattle.hc_segment.proofs.flow.process_box.Goals as goal

pub returns-clause-frame : goal.returns-clause-frame
returns-clause-frame c =
    let same : length c.process.new.frame ≡ length c.args.frame.now = omega (arith, ap length c.bytes_mut.ensures.bytes) in
    take_at c.process.new.frame _ (length c.args.frame.now) same ∙ c.process.ensures.frame ∙ ap (frame_through c.args.segment.now) c.bytes_mut.ensures.bytes

pub returns-clause-machines : goal.returns-clause-machines
returns-clause-machines c = c.process.ensures.machines ∙ ap (machines_after_frame c.args.segment.now) c.bytes_mut.ensures.bytes
