use Rattle.std.proofs.Common.{◌++◌, ◌∙◌, ap, string_bytes}
use Rattle.hc_events.specs.Sendings.{Frame}
use Rattle.hc_program.specs.Frames.{proposed_line}
use Rattle.hc_program.proofs.Numbered.{next_text}
use Rattle.hc_program.proofs.commands.send.push_sent.Goals as goal

pub loop-frame-preserved : goal.loop-frame-preserved
loop-frame-preserved c =
    let line = proposed_line c.args.core.now.history in
    let answer_given = c.in_ok-push_frame.ensures ∙ ap (λ (frame : Frame). string_bytes c.loop-frame.out ++ line frame) c.frame-item.is in
    next_text line c.args.frames.now c.loop-frame.frame-index c.frame-item.result _ _ _ c.loop-frame-test.true c.loop-frame.invariant answer_given
