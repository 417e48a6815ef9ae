use Rattle.std.proofs.Common.{◌∙◌, ap, sym, subst}
use Rattle.std.specs.Prelude.{All}
use Rattle.hc_events.specs.Outputs.{sent_data}
use Rattle.hc_events.specs.Points.{line_of}
use Rattle.hc_sendings.specs.PartTexts.{part_text}
use Rattle.hc_sendings.specs.Parts.{part_size}
use Rattle.hc_core.specs.Records.{history_read}
use Rattle.hc_core.proofs.PartsSent.{part-can, part-fits, part-sent, parts-are_placed}
use Rattle.hc_core.specs.Filled.{CanBeFilled}
use Rattle.hc_core.specs.State.{CoreState}
use Rattle.hc_core.proofs.keeping.Core.fill_part.Goals as goal

pub write_part-requires-clause-can : goal.write_part-requires-clause-can
write_part-requires-clause-can c =
    let history = history_read c.self.inside.history in
    let frames = c.args.frames.now in
    let can : All (CanBeFilled history) frames = subst (λ (state : CoreState). All (CanBeFilled state.history) frames) (sym c.self.view_is) c.requires.frames in
    part-can history c.self.inside.outputs c.self.invariant.project c.self.invariant.uncrowded c.self.invariant.values frames can

pub write_part-requires-clause-exact : goal.write_part-requires-clause-exact
write_part-requires-clause-exact c =
    let history = history_read c.self.inside.history in
    let task = c.args.task in
    let frames = c.args.frames.now in
    let can : All (CanBeFilled history) frames = subst (λ (state : CoreState). All (CanBeFilled state.history) frames) (sym c.self.view_is) c.requires.frames in
    c.requires.exact
    ∙ ap (λ (state : CoreState). part_size (line_of state.history) task frames) (sym c.self.view_is)
    ∙ sym (part-fits history c.self.inside.outputs c.self.invariant.project c.self.invariant.uncrowded c.self.invariant.values task frames (parts-are_placed history frames can))

pub returns : goal.returns
returns c =
    let history = history_read c.self.inside.history in
    let task = c.args.task in
    let frames = c.args.frames.now in
    let can : All (CanBeFilled history) frames = subst (λ (state : CoreState). All (CanBeFilled state.history) frames) (sym c.self.view_is) c.requires.frames in
    c.write_part.ensures
    ∙ part-sent history c.self.inside.outputs c.self.invariant.project c.self.invariant.uncrowded c.self.invariant.values task frames (parts-are_placed history frames can)
    ∙ ap (λ (state : CoreState). part_text (sent_data state.history) task frames) c.self.view_is
