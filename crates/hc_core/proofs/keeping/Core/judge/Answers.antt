use Rattle.std.proofs.Common.{◌∙◌, ap}
use Rattle.hc_records.specs.Line.{State, line}
use Rattle.hc_events.specs.Answering.{judged_by}
use Rattle.hc_events.specs.Steps.{judged_answer}
use Rattle.hc_sendings.specs.Judging.{judged_in}
use Rattle.hc_sendings.proofs.lemmas.Dues.{answer_given-join}
use Rattle.hc_core.specs.Records.{history_read}
use Rattle.hc_core.specs.State.{CoreState}
use Rattle.hc_core.proofs.keeping.Core.judge.Goals as goal

pub returns-clause-answer : goal.returns-clause-answer
returns-clause-answer c =
    let inside = c.self.inside in
    c.empty_unless_answered.ensures.same_answer
    ∙ c.in_ok-arrived.ensures.answer
    ∙ ap (λ (state : State). judged_answer (judged_in (line state) inside.awaited c.args.arrival.now)) c.self.invariant.state
    ∙ answer_given-join (history_read inside.history) inside.awaited c.args.arrival.now c.self.invariant.waits.awaits
    ∙ ap (λ (state : CoreState). judged_answer (judged_by state.history c.args.arrival.now)) c.self.view_is
