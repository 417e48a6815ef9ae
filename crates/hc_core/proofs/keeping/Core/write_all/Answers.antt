use Rattle.std.proofs.Common.{◌∙◌, ℕ, List, ap, sym}
use Rattle.hc_events.specs.declared.sending.TheConstants.{FRAME_BLOCKS}
use Rattle.hc_events.specs.Entries.{History}
use Rattle.hc_events.specs.Points.{next_serial}
use Rattle.hc_events.specs.WriteFrames.{writes_text}
use Rattle.hc_core.proofs.Writes.{sent-answer_given, writes-entries}
use Rattle.hc_core.specs.State.{CoreState}
use Rattle.hc_core.specs.Written.{first_blocks, sent_answer}
use Rattle.hc_core.proofs.keeping.Core.write_all.Goals as goal

pub returns-clause-answer : goal.returns-clause-answer
returns-clause-answer c =
    let history = c.args.self.now.history in
    c.sent_answer.ensures
    ∙ ap (λ (text : List ℕ). sent_answer text c.in_ok-text.blocks) c.in_ok-text.ensures.text
    ∙ ap (λ (n : ℕ). sent_answer (writes_text (next_serial history) (first_blocks FRAME_BLOCKS history)) n) c.in_ok-text.ensures.count
    ∙ sent-answer_given history c.in_ok-text.ensures.accepted

pub returns-clause-entries : goal.returns-clause-entries
returns-clause-entries c =
    let old = c.args.self.now in
    c.in_ok-text.ensures.entries
    ∙ ap (λ (entries : History). let next : CoreState = record old { history = entries } in next) (sym (writes-entries old.history c.in_ok-text.ensures.accepted))
