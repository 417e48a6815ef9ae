use Rattle.std.proofs.Common.{◌≡◌, ◌==◌, ◌∙◌, Bool, ap, cond, subst, sym, ℕ, List, Some, None}
use Rattle.std.specs.Prelude.{All, IfOk, find, option_map}
use Rattle.hc_records.specs.Line.{line}
use Rattle.hc_events.specs.Accepted.{IsInLine}
use Rattle.hc_events.specs.Answering.{Judged}
use Rattle.hc_events.specs.Steps.{judged_answer}
use Rattle.hc_events.specs.Outcomes.{arrived_answer}
use Rattle.hc_sendings.specs.declared.writes.AwaitedBlock.{AwaitedBlock}
use Rattle.hc_sendings.specs.Judging.{found_write, frame_due}
use Rattle.hc_sendings.specs.Walk.{outcomes_in}
use Rattle.hc_sendings.specs.Stored.{StoredFrame, LastSent, awaited_frames, frame_by}
use Rattle.hc_sendings.specs.Waiting.{AwaitedFrame, AwaitedWrite, AwaitedDatagram, Waiting}
use Rattle.hc_sendings.proofs.AnswerGiven.{found-holds, found-is_placed, frame-answer_given, judged-blocks, judged-frame, no-blocks}
use Rattle.hc_sendings.proofs.awaited.Awaited.judge.Goals as goal

pub judge_parts-requires-clause-in_line : goal.judge_parts-requires-clause-in_line
judge_parts-requires-clause-in_line c =
    let last_sent : LastSent = c.self.inside.last_sent in
    let serial : ℕ = c.args.arrival.now.serial in
    let frame : StoredFrame = c.in-Some-found.frame.now in
    let found : Some (frame_by last_sent frame) ≡ find (λ (one : AwaitedFrame). one.serial == serial) c.args.self.now.frames =
    c.in-Some-found.ensures.found
    ∙ ap (λ (n : ℕ). find (λ (one : AwaitedFrame). one.serial == n) (awaited_frames last_sent c.as_slice.result.now)) c.serial-2.ensures.value
    ∙ ap (λ (frames : List StoredFrame). find (λ (one : AwaitedFrame). one.serial == serial) (awaited_frames last_sent frames)) c.as_slice.ensures.value
    ∙ ap (λ (w : Waiting). find (λ (one : AwaitedFrame). one.serial == serial) w.frames) c.self.view_is in
    found-is_placed (line c.args.plan.now) last_sent frame
    (found-holds (λ (one : AwaitedFrame). All (λ (carried : AwaitedDatagram). IsInLine (line c.args.plan.now) carried.datagram) one.datagrams) serial c.args.self.now.frames (frame_by last_sent frame) c.requires.in_line found)

pub returns-then-branch-clause-answer : goal.returns-then-branch-clause-answer
returns-then-branch-clause-answer c =
    let last_sent : LastSent = c.self.inside.last_sent in
    let serial : ℕ = c.args.arrival.now.serial in
    let frame : StoredFrame = c.in-Some-found.frame.now in
    let found : Some (frame_by last_sent frame) ≡ find (λ (one : AwaitedFrame). one.serial == serial) c.args.self.now.frames =
    c.in-Some-found.ensures.found
    ∙ ap (λ (n : ℕ). find (λ (one : AwaitedFrame). one.serial == n) (awaited_frames last_sent c.as_slice.result.now)) c.serial-2.ensures.value
    ∙ ap (λ (frames : List StoredFrame). find (λ (one : AwaitedFrame). one.serial == serial) (awaited_frames last_sent frames)) c.as_slice.ensures.value
    ∙ ap (λ (w : Waiting). find (λ (one : AwaitedFrame). one.serial == serial) w.frames) c.self.view_is in
    let none : found_write serial c.args.self.now ≡ None =
    no-blocks serial c.args.self.now (sym (c.in_default.ensures.blocks
    ∙ ap (λ (n : ℕ). option_map (λ (one : AwaitedWrite). one.blocks) (found_write n c.args.self.now)) c.serial.ensures.value)) in
    let whole : Some c.judge_parts.new.outcomes.items ≡ outcomes_in (frame_due (line c.args.plan.now) (frame_by last_sent frame)) c.args.arrival.now.parts =
    ap (λ (b : Bool). cond b (Some c.judge_parts.new.outcomes.items) None) (sym c.if-branch.true) ∙ c.in_ok-judge_parts.ensures.outcomes in
    frame-answer_given (line c.args.plan.now) (frame_by last_sent frame) c.args.arrival.now c.judge_parts.new.outcomes.items c.in-Some-found.ensures.awaited_still whole
    ∙ ap judged_answer (judged-frame (line c.args.plan.now) c.args.self.now c.args.arrival.now (Some (frame_by last_sent frame)) none found)

pub returns-in-Some-clause-answer : goal.returns-in-Some-clause-answer
returns-in-Some-clause-answer c =
    let serial : ℕ = c.args.arrival.now.serial in
    let blocks : List AwaitedBlock = c.in-Some.blocks.now in
    let there : option_map (λ (one : AwaitedWrite). one.blocks) (found_write serial c.args.self.now) ≡ Some blocks =
    sym (c.in-Some.ensures.blocks
    ∙ ap (λ (n : ℕ). option_map (λ (one : AwaitedWrite). one.blocks) (found_write n c.args.self.now)) c.serial.ensures.value) in
    subst (λ (judged : List Judged). IfOk c.judge_write.result (λ arrived. arrived_answer arrived c.judge_write.new.outcomes.items ≡ judged_answer judged))
    (judged-blocks (line c.args.plan.now) c.args.self.now c.args.arrival.now blocks there) c.judge_write.ensures.answer
