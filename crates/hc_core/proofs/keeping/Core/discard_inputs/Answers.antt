use Rattle.std.proofs.Common.{◌≡◌, [], ◌∷◌, ◌++◌, ◌∙◌, List, ap, map, sym, subst}
use Rattle.hc_events.specs.declared.answer.Answer.TheVariants as answer
use Rattle.hc_events.specs.declared.change.Change.{Change}
use Rattle.hc_events.specs.Answering.{judged_by}
use Rattle.hc_events.specs.Entries.{History, Came}
use Rattle.hc_records.specs.Line.{State}
use Rattle.hc_events.specs.Points.{epoch_of}
use Rattle.hc_events.specs.Steps.{judged_answer, with_arrival}
use Rattle.hc_events.proofs.lemmas.Epochs.{epochs-counted}
use Rattle.hc_sendings.specs.Waiting.{Waiting, ended}
use Rattle.hc_core.specs.Records.{history_read}
use Rattle.hc_core.proofs.Arrivals.{agree-inputs, good_answers-fit}
use Rattle.hc_core.proofs.Update.{agree-taken}
use Rattle.hc_core.proofs.AnswerGiven.{answer_given-inputs}
use Rattle.hc_core.specs.Agreement.{Agree, CoreParts, core_parts}
use Rattle.hc_core.specs.GoodAnswers.{change_of, good_answers_in}
use Rattle.hc_core.specs.State.{CoreState}
use Rattle.hc_core.proofs.keeping.Core.discard_inputs.Goals as goal

pub put_good_answers-requires : goal.put_good_answers-requires
put_good_answers-requires c =
    let inside = c.self.inside in
    let history = history_read inside.history in
    let arrival = c.args.arrival.now in
    let outcomes = c.args.outcomes.now in
    let answer_given : judged_answer (judged_by history arrival) ≡ answer.Answered outcomes = ap (λ (state : CoreState). judged_answer (judged_by state.history arrival)) c.self.view_is ∙ c.requires.judged in
    good_answers-fit (core_parts inside) history (history_read inside.taken.value) arrival (good_answers_in outcomes arrival.parts) c.self.invariant (answer_given-inputs history arrival outcomes answer_given).good_answers

pub invariant_of-self : goal.invariant_of-self
invariant_of-self c =
    let inside = c.self.inside in
    let history = history_read inside.history in
    let arrival = c.args.arrival.now in
    let outcomes = c.args.outcomes.now in
    let grown = c.came-came.ensures ∙ ap (with_arrival history) c.requires.read in
    let now = ap history_read c.of.ensures ∙ grown in
    let answer_given : judged_answer (judged_by history arrival) ≡ answer.Answered outcomes = ap (λ (state : CoreState). judged_answer (judged_by state.history arrival)) c.self.view_is ∙ c.requires.judged in
    let epoch : c.epoch-epoch.result ≡ epoch_of history = c.epoch-epoch.ensures ∙ ap (λ (state : State). state.epoch) c.self.invariant.state ∙ epochs-counted history c.self.invariant.accepted in
    let over = c.end.ensures ∙ ap (λ serial. ended serial inside.awaited) c.serial.ensures.value in
    let put : CoreParts = record (core_parts inside) { awaited = ended arrival.serial inside.awaited; inputs = c.put_good_answers.new.inputs; ages = c.put_good_answers.new.ages; changes = inside.changes.items ++ map change_of (good_answers_in outcomes arrival.parts) } in
    subst (λ (changes : List Change). Agree (record put { awaited = c.end.new.self; changes = changes }) (history_read c.came-came.result) (history_read c.of.result.value)) (sym c.clear.ensures.items)
    (subst (λ (taken : History). Agree (record put { awaited = c.end.new.self; changes = [] }) (history_read c.came-came.result) taken) (sym now)
    (subst (λ (grows : History). Agree (record put { awaited = c.end.new.self; changes = [] }) grows (Came arrival ∷ history)) (sym grown)
    (subst (λ (left : Waiting). Agree (record put { awaited = left; changes = [] }) (Came arrival ∷ history) (Came arrival ∷ history)) (sym over)
    (agree-taken put (Came arrival ∷ history) (history_read inside.taken.value)
    (agree-inputs (core_parts inside) history (history_read inside.taken.value) arrival outcomes c.put_good_answers.new.inputs c.put_good_answers.new.ages c.epoch-epoch.result (answer_given-inputs history arrival outcomes answer_given) epoch c.put_good_answers.ensures.slots c.put_good_answers.ensures.ages c.self.invariant)))))
