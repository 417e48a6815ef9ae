use Rattle.std.proofs.Common.{◌≡◌, ◌∙◌, ℕ, List, None, ap, arith, length, sym}
use Rattle.std.proofs.lemmas.Option.{none-some}
use Rattle.std.proofs.lemmas.Result.{err_from_is_err_and}
use Rattle.hc_records.specs.Lists.{lowest}
use Rattle.hc_events.specs.Calls.{further_into_faults}
use Rattle.hc_events.specs.Points.{next_serial}
use Rattle.hc_events.specs.UnderWay.{further_blocks}
use Rattle.hc_events.specs.WriteFrames.{frame_blocks, writes_text}
use Rattle.hc_core.specs.Written.{sent_answer}
use Rattle.hc_core.proofs.Further.{cut-text, further-has-room, further-most, further-some}
use Rattle.hc_core.proofs.Writes.{sent-answered}
use Rattle.hc_core.proofs.keeping.Core.write_further.Goals as goal

pub returns-in_err-sent-clause-refused : goal.returns-in_err-sent-clause-refused
returns-in_err-sent-clause-refused c =
    let history = c.args.self.now.history in
    let long : length c.deref_mut.result.now ≡ 1514 = grind (arith, c.deref_mut.ensures.len, c.deref_mut.ensures.value, c.in_ok-text.ensures.len, c.in_ok-text.ensures.items) in
    let room : lowest (further_into_faults history (length c.deref_mut.result.now)) ≡ None =
    further-has-room history (length c.deref_mut.result.now) (omega (arith, long)) c.in_ok-can_write_further.ensures.accepted in
    let p = err_from_is_err_and c.from_residual-in_err-sent.result c.from_residual-in_err-sent.ensures.1 in
    rw (p.1, p.2) (λ other. absurd (none-some c.in_err-sent.field-0.0 (sym room ∙ c.in_err-sent.ensures.refused other)))

pub returns-clause-answer : goal.returns-clause-answer
returns-clause-answer c =
    let history = c.args.self.now.history in
    let none = c.in_ok-can_write_further.ensures.accepted in
    let written = c.in_ok-sent.ensures.written in
    let blocks = frame_blocks (further_blocks history) in
    let text : List ℕ = writes_text (next_serial history) blocks in
    let long : length c.deref_mut.result.now ≡ 1514 = grind (arith, c.deref_mut.ensures.len, c.deref_mut.ensures.value, c.in_ok-text.ensures.len, c.in_ok-text.ensures.items) in
    let same : length c.write_further_into.new.out ≡ 1514 = grind (arith, long, c.write_further_into.auto.out) in
    let room : c.in_ok-text.text.len ≡ 1514 = grind (arith, c.in_ok-text.ensures.len, c.in_ok-text.ensures.items) in
    let most = further-most history in
    let size = written.blocks.size in
    c.sent_answer.ensures
    ∙ ap (λ (cut : List ℕ). sent_answer cut c.in_ok-sent.sent.blocks)
    (c.of.ensures ∙ c.truncate.ensures.items
    ∙ cut-text text c.deref_mut.result.now c.write_further_into.new.out c.in_ok-text.text.items c.in_ok-sent.sent.size c.in_ok-text.text.len written.blocks.holds
    (same ∙ sym room) (long ∙ sym room) (omega (arith, most, size, room)))
    ∙ ap (sent_answer text) written.blocks.count
    ∙ sent-answered (next_serial history) blocks (further-some history none)
    ∙ sym written.answer
