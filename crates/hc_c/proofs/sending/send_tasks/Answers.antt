use Rattle.std.proofs.Common.{◌∙◌, ap, arith, length, sym, Some}
use Rattle.hc_events.specs.declared.faults.CoreFault.{CoreFault}
use Rattle.hc_c.proofs.FrameSizes.{frames_few, frames_need_small, frames_small, room_other}
use Rattle.hc_c.proofs.sending.send_tasks.Goals as goal

pub sent_out-requires-clause-size : goal.sent_out-requires-clause-size
sent_out-requires-clause-size c =
    let small = frames_small c.args.own.now.core.history c.plan.result.now c.args.tasks.now c.plan.ensures.state c.places.ensures.project c.places.ensures.uncrowded c.requires in
    let same = c.in-Ok.ensures.size in
    omega (arith, small, same)

pub sent_out-requires-clause-frames : goal.sent_out-requires-clause-frames
sent_out-requires-clause-frames c =
    let few = frames_few c.args.own.now.core.history c.plan.result.now c.args.tasks.now c.plan.ensures.state c.places.ensures.project c.places.ensures.uncrowded c.requires in
    let long = c.len.ensures ∙ c.send_ready_into.new.frames.ok.0 ∙ ap length c.in-Ok.ensures.frames in
    omega (arith, few, long)

pub refuse_frames-requires : goal.refuse_frames-requires
refuse_frames-requires c = λ bytes is.
    frames_need_small c.args.own.now.core.history c.plan.result.now c.args.tasks.now (length c.args.out.now) bytes c.plan.ensures.state c.places.ensures.project c.places.ensures.uncrowded c.requires
    (c.in-Err.ensures.refused (λ e. room_other bytes (sym is ∙ e)) ∙ ap (λ (fault : CoreFault). Some fault) is)
