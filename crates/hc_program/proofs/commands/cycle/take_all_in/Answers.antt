use Rattle.std.proofs.Common.{List, ℕ, ◌++◌, ◌∙◌, ap, string_bytes}
use Rattle.hc_events.specs.Steps.{Arrives}
use Rattle.hc_program.specs.Answers.{event_text}
use Rattle.hc_program.specs.Standings.{SessionState, stepped}
use Rattle.hc_program.proofs.Cycling.{next_left, next_reached, next_answered}
use Rattle.hc_program.proofs.Grown.{any_err}
use Rattle.hc_program.proofs.commands.cycle.take_all_in.Goals as goal

pub returns-in_err-reply-clause-stops : goal.returns-in_err-reply-clause-stops
returns-in_err-reply-clause-stops c = any_err c.from_residual.result _ (c.loop-frame.frame-index, c.in_err-reply.ensures.unchanged ∙ c.loop-frame.invariant.reached)

pub loop-frame-preserved : goal.loop-frame-preserved
loop-frame-preserved c =
    let frames = c.args.frames.now in
    let i = c.loop-frame.frame-index in
    let s = c.loop-frame.session in
    let next = c.reply.new.session in
    let within = c.loop-frame-test.true in
    let is = c.bytes.ensures.bytes ∙ c.frame-item.is in
    let grown = c.in_ok-reply.ensures.text ∙ ap (λ (bytes : List ℕ). string_bytes c.loop-frame.out ++ event_text s.history (Arrives bytes)) is in
    let went = c.in_ok-reply.ensures.next ∙ ap (λ (bytes : List ℕ). stepped s (Arrives bytes)) is in
    record {
      text = next_answered frames i c.frame-item.result s.history next.history _ _ _ within grown (ap (λ (t : SessionState). t.history) went) c.loop-frame.invariant.text;
      rest = next_left frames i c.frame-item.result s next _ within went c.loop-frame.invariant.rest;
      reached = next_reached frames i c.frame-item.result c.args.session.now s next within went c.loop-frame.invariant.reached;
    }
