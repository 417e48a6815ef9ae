use Rattle.std.proofs.Common.{◌∙◌, ◌+◌, ◌∷◌, ◌++◌, [], List, length, length-append, map, take, sym, subst, ap, ℕ, arith}
use Rattle.std.proofs.lemmas.List.{map_more, take_all}
use Rattle.hc_events.specs.declared.answer.Answer.{Answer}
use Rattle.hc_events.specs.Steps.{Step, step_of}
use Rattle.hc_core.specs.Serving.{MayAnswerAll}
use Rattle.hc_core.proofs.Serves.{all-answered}
use Rattle.hc_core.proofs.keeping.Core.serve_all.Goals as goal

pub loop-event-preserved : goal.loop-event-preserved
loop-event-preserved c =
    let i = c.loop-event.event-index in
    let list = c.push_reserved.ensures in
    let answers = c.loop-event.answers.items in
    let answer = c.step-answer.result in
    let history = c.args.self.now.history in
    let next = c.step-answer.new.self.history in
    let longer = length-append answers (answer ∷ []) in
    let steps = map step_of (take i c.args.events.now) in
    let more = all-answered history c.loop-event.self.history next steps answers (step_of c.event-item.result) answer c.loop-event.invariant.answers c.step-answer.ensures.answer c.step-answer.ensures.early in
    let grown = map_more step_of c.args.events.now i c.event-item.result c.loop-event-test.true ∙ ap (λ event. steps ++ step_of event ∷ []) (sym c.event-item.is) in
    record {
      answers =
          subst (λ (all : List Answer). MayAnswerAll history (map step_of (take (i + 1) c.args.events.now)) all next) (sym list.items)
          (subst (λ (all : List Step). MayAnswerAll history all (answers ++ answer ∷ []) next) (sym grown) more);
      taken = c.step-answer.ensures.taken ∙ c.loop-event.invariant.taken;
      counted = ap length list.items ∙ longer ∙ ap (λ (n : ℕ). n + 1) c.loop-event.invariant.counted;
      room = let room = c.loop-event.invariant.room in omega (arith, list.capacity, room);
    }

pub returns-clause-answers : goal.returns-clause-answers
returns-clause-answers c = rw (take_all c.loop-event.event-index c.args.events.now c.loop-event-test.false) at c.loop-event.invariant.answers
