use Rattle.std.proofs.Common.{sym, subst}
use Rattle.hc_records.specs.Lists.{lowest}
use Rattle.hc_events.specs.declared.answer.Answer.{Answer}
use Rattle.hc_events.specs.Calls.{MayAnswer}
use Rattle.hc_events.specs.Ready.{with_cleared}
use Rattle.hc_events.specs.Steps.{Clears, clear_faults}
use Rattle.hc_core.proofs.Serves.{clear-early, clear-served, history-after, history-same, taken-same}
use Rattle.hc_core.specs.Early.{ShowsEarly}
use Rattle.hc_core.proofs.keeping.Core.serve_clear.Goals as goal

pub returns-clause-answer : goal.returns-clause-answer
returns-clause-answer c =
    let old = c.args.self.now in
    let new = c.cleared.new.self in
    let is = c.cleared.ensures in
    subst (λ (answer_given : Answer). MayAnswer old.history (Clears c.args.station) answer_given new.history) (sym c.answer_of_clear.ensures)
    (clear-served old.history new.history c.args.station c.cleared.result is.accepted is.refused (history-after c.cleared.result old new (with_cleared old.history c.args.station) is.entries) (history-same c.cleared.result old new is.unchanged))

pub returns-clause-taken : goal.returns-clause-taken
returns-clause-taken c =
    taken-same c.cleared.result c.args.self.now c.cleared.new.self (with_cleared c.args.self.now.history c.args.station) c.cleared.ensures.entries c.cleared.ensures.unchanged

pub returns-clause-early : goal.returns-clause-early
returns-clause-early c =
    let history = c.args.self.now.history in
    subst (ShowsEarly history (Clears c.args.station)) (sym c.answer_of_clear.ensures)
    (clear-early (lowest (clear_faults history c.args.station)) c.cleared.result c.cleared.ensures.accepted c.cleared.ensures.refused)
