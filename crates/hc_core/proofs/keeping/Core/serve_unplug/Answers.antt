use Rattle.std.proofs.Common.{◌∷◌, sym, subst}
use Rattle.hc_records.specs.Lists.{lowest}
use Rattle.hc_events.specs.declared.answer.Answer.{Answer}
use Rattle.hc_events.specs.Calls.{MayAnswer}
use Rattle.hc_events.specs.Entries.{Unplugged}
use Rattle.hc_events.specs.Steps.{Unplugs, unplug_faults}
use Rattle.hc_core.proofs.Serves.{unplug-early, unplug-served, history-after, history-same, taken-same}
use Rattle.hc_core.specs.Early.{ShowsEarly}
use Rattle.hc_core.proofs.keeping.Core.serve_unplug.Goals as goal

pub returns-clause-answer : goal.returns-clause-answer
returns-clause-answer c =
    let old = c.args.self.now in
    let new = c.unplugged.new.self in
    let is = c.unplugged.ensures in
    subst (λ (answer_given : Answer). MayAnswer old.history (Unplugs c.args.station) answer_given new.history) (sym c.answer_of_unplug.ensures)
    (unplug-served old.history new.history c.args.station c.unplugged.result is.accepted is.refused (history-after c.unplugged.result old new (Unplugged c.args.station ∷ old.history) is.entries) (history-same c.unplugged.result old new is.unchanged))

pub returns-clause-taken : goal.returns-clause-taken
returns-clause-taken c =
    taken-same c.unplugged.result c.args.self.now c.unplugged.new.self (Unplugged c.args.station ∷ c.args.self.now.history) c.unplugged.ensures.entries c.unplugged.ensures.unchanged

pub returns-clause-early : goal.returns-clause-early
returns-clause-early c =
    let history = c.args.self.now.history in
    subst (ShowsEarly history (Unplugs c.args.station)) (sym c.answer_of_unplug.ensures)
    (unplug-early (lowest (unplug_faults history c.args.station)) c.unplugged.result c.unplugged.ensures.accepted c.unplugged.ensures.refused)
