use Rattle.std.proofs.Common.{◌∙◌, ap, sym, subst}
use Rattle.std.specs.Prelude.{All}
use Rattle.hc_records.specs.Line.{State, line}
use Rattle.hc_events.specs.Accepted.{IsInLine}
use Rattle.hc_events.specs.Points.{line_of}
use Rattle.hc_events.specs.Sendings.{Frame}
use Rattle.hc_sendings.specs.Parts.{part_size}
use Rattle.hc_core.specs.Records.{history_read}
use Rattle.hc_core.proofs.PartsSent.{parts-are_placed}
use Rattle.hc_core.specs.Filled.{CanBeFilled}
use Rattle.hc_core.specs.State.{CoreState}
use Rattle.hc_core.proofs.keeping.Core.part_size.Goals as goal

pub part_size-requires-clause-in_line : goal.part_size-requires-clause-in_line
part_size-requires-clause-in_line c =
    let history = history_read c.self.inside.history in
    let frames = c.args.frames.now in
    let can : All (CanBeFilled history) frames = subst (λ (state : CoreState). All (CanBeFilled state.history) frames) (sym c.self.view_is) c.requires.frames in
    subst (λ (state : State). All (λ (frame : Frame). All (IsInLine (line state)) frame.datagrams) frames) (sym c.self.invariant.state)
    (parts-are_placed history frames can)

pub returns : goal.returns
returns c =
    let task = c.args.task in
    let frames = c.args.frames.now in
    c.part_size.ensures
    ∙ ap (λ (state : State). part_size (line state) task frames) c.self.invariant.state
    ∙ ap (λ (state : CoreState). part_size (line_of state.history) task frames) c.self.view_is
