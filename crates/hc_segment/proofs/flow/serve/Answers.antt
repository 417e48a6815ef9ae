use Rattle.std.proofs.Common.{rules, ℕ, ◌+◌, length, length-append, ◌∙◌, ap, [], ◌∷◌}
use Rattle.hc_rings.specs.Frames.{frames_taken}
use Rattle.hc_segment.proofs.Passing.{more-frames, more-machines}
use Rattle.hc_segment.proofs.flow.serve.Goals as goal

pub loop-preserved : goal.loop-preserved
loop-preserved g c =
    let taken = c.take_waiting-frame.ensures.taken in
    let i = c.loop.invariant in
    record {
      count = ap length taken ∙ length-append (frames_taken c.loop.from) (c.take_waiting-frame.result ∷ []) ∙ ap (λ (n : ℕ). n + 1) i.count;
      frames = more-frames _ _ _ _ _ _ _ _ i.frames i.machines c.process_box.ensures.frame c.send_waiting.ensures.sent taken;
      machines = more-machines _ _ _ _ _ _ i.machines c.process_box.ensures.machines taken;
      rings = search rules;
    }
