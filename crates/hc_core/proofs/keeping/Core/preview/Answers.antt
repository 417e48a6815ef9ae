use Rattle.std.proofs.Common.{◌∙◌, ℕ, ap}
use Rattle.hc_records.specs.Line.{State, line}
use Rattle.hc_events.specs.Calls.{preview}
use Rattle.hc_events.specs.Points.{line_of}
use Rattle.hc_sendings.specs.Previews.{preview_in}
use Rattle.hc_core.specs.Records.{history_read}
use Rattle.hc_core.proofs.Fills.{preview-filled}
use Rattle.hc_core.specs.State.{CoreState}
use Rattle.hc_core.proofs.keeping.Core.preview.Goals as goal

pub returns-clause-frame : goal.returns-clause-frame
returns-clause-frame c =
    let history = history_read c.self.inside.history in
    c.preview.ensures
    ∙ ap (λ (state : State). preview_in (line state) c.self.inside.serial c.args.task c.args.number) c.self.invariant.state
    ∙ ap (λ (n : ℕ). preview_in (line_of history) n c.args.task c.args.number) c.self.invariant.serial
    ∙ ap (λ (state : CoreState). preview state.history c.args.task c.args.number) c.self.view_is

pub returns-clause-filled : goal.returns-clause-filled
returns-clause-filled c =
    let history = history_read c.self.inside.history in
    preview-filled c.args.self.now.history c.args.task c.args.number c.preview.result
    (c.preview.ensures
    ∙ ap (λ (state : State). preview_in (line state) c.self.inside.serial c.args.task c.args.number) c.self.invariant.state
    ∙ ap (λ (n : ℕ). preview_in (line_of history) n c.args.task c.args.number) c.self.invariant.serial
    ∙ ap (λ (state : CoreState). preview state.history c.args.task c.args.number) c.self.view_is)
