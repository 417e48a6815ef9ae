use Rattle.std.proofs.Common.{◌+◌, ◌∙◌, [], ◌∷◌, ap, length, sym}
use Rattle.hc_events.specs.declared.answer.Outcome.TheVariants.{Done, Missed}
use Rattle.hc_events.specs.Answering.{judged_by}
use Rattle.hc_events.specs.Changes.{updates_of}
use Rattle.hc_events.specs.Outcomes.{arrived_answer}
use Rattle.hc_core.proofs.Added.{inputs-added, none-added}
use Rattle.hc_core.proofs.Arrivals.{none-new_answer}
use Rattle.hc_core.proofs.AnswerGiven.{answer_given-stale, answer_given-writes, written-done, written-missed, written-several}
use Rattle.hc_core.proofs.keeping.Core.changes_by.Goals as goal

pub returns-in-Answered : goal.returns-in-Answered
returns-in-Answered c =
    inputs-added c.args.self.now.history c.args.arrival.now c.args.outcomes.now (c.requires ∙ ap (λ which. arrived_answer which c.args.outcomes.now) c.in-Answered.is)
    ∙ ap (λ n. length (updates_of c.args.self.now.history) + n) (sym c.count_inputs.ensures.count)

pub returns-in-WriteDone : goal.returns-in-WriteDone
returns-in-WriteDone c =
    let history = c.args.self.now.history in
    let arrival = c.args.arrival.now in
    none-added history arrival
    (answer_given-writes history arrival (Done ∷ []) (written-done (judged_by history arrival) (c.requires ∙ ap (λ which. arrived_answer which c.args.outcomes.now) c.in-WriteDone.is))).none

pub returns-in-WriteMissed : goal.returns-in-WriteMissed
returns-in-WriteMissed c =
    let history = c.args.self.now.history in
    let arrival = c.args.arrival.now in
    none-added history arrival
    (answer_given-writes history arrival (Missed ∷ []) (written-missed (judged_by history arrival) (c.requires ∙ ap (λ which. arrived_answer which c.args.outcomes.now) c.in-WriteMissed.is))).none

pub returns-in-Written : goal.returns-in-Written
returns-in-Written c =
    let history = c.args.self.now.history in
    let arrival = c.args.arrival.now in
    none-added history arrival
    (answer_given-writes history arrival c.args.outcomes.now (written-several (judged_by history arrival) c.args.outcomes.now (c.requires ∙ ap (λ which. arrived_answer which c.args.outcomes.now) c.in-Written.is))).none

pub returns-in-Stale : goal.returns-in-Stale
returns-in-Stale c =
    none-added c.args.self.now.history c.args.arrival.now
    (none-new_answer c.args.self.now.history c.args.arrival.now
    (answer_given-stale c.args.self.now.history c.args.arrival.now (c.requires ∙ ap (λ which. arrived_answer which c.args.outcomes.now) c.in-Stale.is)))
