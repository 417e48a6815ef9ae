use Rattle.std.proofs.Common.{◌∙◌, ap, subst, sym}
use Rattle.hc_events.specs.Accepted.{IsInLine}
use Rattle.hc_events.specs.Outputs.{sent_data}
use Rattle.hc_events.specs.Points.{line_of, state_of}
use Rattle.hc_sendings.proofs.lemmas.Listed.{standing-task}
use Rattle.hc_core.specs.Records.{history_read}
use Rattle.hc_core.specs.State.{CoreState}
use Rattle.hc_core.proofs.Values.{data-sent}
use Rattle.hc_core.proofs.keeping.Core.outputs.Goals as goal

pub returns : goal.returns
returns c =
    let history = history_read c.self.inside.history in
    let args = c.args in
    let agree = c.self.invariant in
    let is_placed = subst (λ (state : CoreState). IsInLine (line_of state.history) (args.task, args.number)) (sym c.self.view_is) c.requires in
    c.bytes.ensures
    ∙ data-sent history c.self.inside.outputs args.task args.number agree.project agree.uncrowded (standing-task (state_of history) args.task args.number agree.project is_placed) is_placed agree.values
    ∙ ap (λ (state : CoreState). sent_data state.history args.task args.number) c.self.view_is
