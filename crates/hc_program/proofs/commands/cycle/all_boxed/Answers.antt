use Rattle.std.proofs.Common.{ap, ◌∙◌}
use Rattle.hc_events.specs.Steps.{sent_text}
use Rattle.hc_program.proofs.Cycling.{mapped_more}
use Rattle.hc_program.proofs.commands.cycle.all_boxed.Goals as goal

pub loop-frame-preserved : goal.loop-frame-preserved
loop-frame-preserved c =
    let text = sent_text c.args.core.now.history in
    mapped_more text c.args.frames.now c.loop-frame.frame-index c.frame-item.result _ _ _ c.loop-frame-test.true c.loop-frame.invariant c.in_ok-push.ensures.items (c.in_ok-boxed.ensures ∙ ap text c.frame-item.is)
