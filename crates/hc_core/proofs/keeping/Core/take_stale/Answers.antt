use Rattle.std.proofs.Common.{◌≡◌, ◌∙◌, ap, sym, subst}
use Rattle.hc_events.specs.declared.answer.Answer.TheVariants as answer
use Rattle.hc_events.specs.Answering.{judged_by}
use Rattle.hc_events.specs.Entries.{History}
use Rattle.hc_events.specs.Steps.{judged_answer, with_arrival}
use Rattle.hc_core.specs.Records.{history_read}
use Rattle.hc_core.proofs.Arrivals.{agree-stale}
use Rattle.hc_core.proofs.AnswerGiven.{answer_given-stale}
use Rattle.hc_core.specs.Agreement.{Agree, core_parts}
use Rattle.hc_core.specs.State.{CoreState}
use Rattle.hc_core.proofs.keeping.Core.take_stale.Goals as goal

pub invariant_of-self : goal.invariant_of-self
invariant_of-self c =
    let inside = c.self.inside in
    let history = history_read inside.history in
    let arrival = c.args.arrival.now in
    let grown = c.came.ensures ∙ ap (with_arrival history) c.requires.read in
    let answer_given : judged_answer (judged_by history arrival) ≡ answer.Stale = ap (λ (state : CoreState). judged_answer (judged_by state.history arrival)) c.self.view_is ∙ c.requires.judged in
    subst (λ (grows : History). Agree (core_parts inside) grows (history_read inside.taken.value)) (sym grown)
    (agree-stale (core_parts inside) history (history_read inside.taken.value) arrival (answer_given-stale history arrival answer_given) c.self.invariant)
