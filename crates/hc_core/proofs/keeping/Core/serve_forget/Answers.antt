use Rattle.std.proofs.Common.{◌∷◌, sym, subst}
use Rattle.hc_records.specs.Lists.{lowest}
use Rattle.hc_events.specs.declared.answer.Answer.{Answer}
use Rattle.hc_events.specs.Calls.{MayAnswer}
use Rattle.hc_events.specs.Entries.{Forgot}
use Rattle.hc_events.specs.Steps.{Forgets, forget_faults}
use Rattle.hc_core.proofs.Serves.{forget-early, forget-served, history-after, history-same, taken-same}
use Rattle.hc_core.specs.Early.{ShowsEarly}
use Rattle.hc_core.proofs.keeping.Core.serve_forget.Goals as goal

pub returns-clause-answer : goal.returns-clause-answer
returns-clause-answer c =
    let old = c.args.self.now in
    let new = c.forget.new.self in
    let is = c.forget.ensures in
    subst (λ (answer_given : Answer). MayAnswer old.history (Forgets c.args.station) answer_given new.history) (sym c.answer_of_forget.ensures)
    (forget-served old.history new.history c.args.station c.forget.result is.accepted is.refused (history-after c.forget.result old new (Forgot c.args.station ∷ old.history) is.entries) (history-same c.forget.result old new is.unchanged))

pub returns-clause-taken : goal.returns-clause-taken
returns-clause-taken c =
    taken-same c.forget.result c.args.self.now c.forget.new.self (Forgot c.args.station ∷ c.args.self.now.history) c.forget.ensures.entries c.forget.ensures.unchanged

pub returns-clause-early : goal.returns-clause-early
returns-clause-early c =
    let history = c.args.self.now.history in
    subst (ShowsEarly history (Forgets c.args.station)) (sym c.answer_of_forget.ensures)
    (forget-early (lowest (forget_faults history c.args.station)) c.forget.result c.forget.ensures.accepted c.forget.ensures.refused)
