use Rattle.std.proofs.Common.{◌≡◌, ◌∷◌, ◌++◌, ◌∙◌, List, ap, sym, subst}
use Rattle.hc_events.specs.declared.answer.Answer.TheVariants as answer
use Rattle.hc_events.specs.declared.change.Change.{Change}
use Rattle.hc_events.specs.Answering.{judged_by}
use Rattle.hc_events.specs.Entries.{History, Came}
use Rattle.hc_records.specs.Line.{State}
use Rattle.hc_events.specs.Points.{epoch_of}
use Rattle.hc_events.specs.Steps.{judged_answer, with_arrival}
use Rattle.hc_events.proofs.lemmas.Epochs.{epochs-counted}
use Rattle.hc_sendings.specs.Waiting.{Waiting, ended}
use Rattle.hc_core.specs.Records.{history_read}
use Rattle.hc_core.proofs.Arrivals.{agree-inputs, good_answers-fit}
use Rattle.hc_core.proofs.AnswerGiven.{answer_given-inputs}
use Rattle.hc_core.specs.Agreement.{Agree, core_parts}
use Rattle.hc_core.specs.GoodAnswers.{good_answers_in}
use Rattle.hc_core.specs.State.{CoreState}
use Rattle.hc_core.proofs.keeping.Core.take_inputs.Goals as goal

pub put_changes-requires-clause-fit : goal.put_changes-requires-clause-fit
put_changes-requires-clause-fit c =
    let inside = c.self.inside in
    let history = history_read inside.history in
    let arrival = c.args.arrival.now in
    let outcomes = c.args.outcomes.now in
    let answer_given : judged_answer (judged_by history arrival) ≡ answer.Answered outcomes = ap (λ (state : CoreState). judged_answer (judged_by state.history arrival)) c.self.view_is ∙ c.requires.judged in
    good_answers-fit (core_parts inside) history (history_read inside.taken.value) arrival (good_answers_in outcomes arrival.parts) c.self.invariant (answer_given-inputs history arrival outcomes answer_given).good_answers

pub put_good_answers-requires : goal.put_good_answers-requires
put_good_answers-requires c =
    let inside = c.self.inside in
    let history = history_read inside.history in
    let arrival = c.args.arrival.now in
    let outcomes = c.args.outcomes.now in
    let answer_given : judged_answer (judged_by history arrival) ≡ answer.Answered outcomes = ap (λ (state : CoreState). judged_answer (judged_by state.history arrival)) c.self.view_is ∙ c.requires.judged in
    good_answers-fit (core_parts inside) history (history_read inside.taken.value) arrival (good_answers_in outcomes arrival.parts) c.self.invariant (answer_given-inputs history arrival outcomes answer_given).good_answers

pub invariant_of-self-in_err-append : goal.invariant_of-self-in_err-append
invariant_of-self-in_err-append c =
    let inside = c.self.inside in
    subst (λ (changes : List Change). Agree (record (core_parts inside) { changes = changes }) (history_read inside.history) (history_read inside.taken.value)) (sym c.in_err-append.ensures.items) c.self.invariant

pub invariant_of-self-2 : goal.invariant_of-self-2
invariant_of-self-2 c =
    let inside = c.self.inside in
    let history = history_read inside.history in
    let arrival = c.args.arrival.now in
    let outcomes = c.args.outcomes.now in
    let taken = history_read inside.taken.value in
    let grown = c.came.ensures ∙ ap (with_arrival history) c.requires.read in
    let answer_given : judged_answer (judged_by history arrival) ≡ answer.Answered outcomes = ap (λ (state : CoreState). judged_answer (judged_by state.history arrival)) c.self.view_is ∙ c.requires.judged in
    let epoch : c.epoch-epoch.result ≡ epoch_of history = c.epoch-epoch.ensures ∙ ap (λ (state : State). state.epoch) c.self.invariant.state ∙ epochs-counted history c.self.invariant.accepted in
    let over = c.end.ensures ∙ ap (λ serial. ended serial inside.awaited) c.serial.ensures.value in
    let more = c.in_ok-append.ensures.items ∙ ap (λ (changes : List Change). inside.changes.items ++ changes) c.in_ok-put_changes.ensures in
    subst (λ (grows : History). Agree (record (core_parts inside) { awaited = c.end.new.self; inputs = c.put_good_answers.new.inputs; ages = c.put_good_answers.new.ages; changes = c.append.new.self.items }) grows taken) (sym grown)
    (subst (λ (left : Waiting). Agree (record (core_parts inside) { awaited = left; inputs = c.put_good_answers.new.inputs; ages = c.put_good_answers.new.ages; changes = c.append.new.self.items }) (Came arrival ∷ history) taken) (sym over)
    (subst (λ (changes : List Change). Agree (record (core_parts inside) { awaited = ended arrival.serial inside.awaited; inputs = c.put_good_answers.new.inputs; ages = c.put_good_answers.new.ages; changes = changes }) (Came arrival ∷ history) taken) (sym more)
    (agree-inputs (core_parts inside) history taken arrival outcomes c.put_good_answers.new.inputs c.put_good_answers.new.ages c.epoch-epoch.result (answer_given-inputs history arrival outcomes answer_given) epoch c.put_good_answers.ensures.slots c.put_good_answers.ensures.ages c.self.invariant)))
