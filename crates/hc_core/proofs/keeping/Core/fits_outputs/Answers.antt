use Rattle.std.proofs.Common.{◌≡◌, ◌∙◌, ◌==◌, ℕ, ap, length}
use Rattle.hc_records.specs.Image.{output_length, task_places}
use Rattle.hc_records.specs.Line.{State, line}
use Rattle.hc_places.specs.Table.{Table, part_in, table_of}
use Rattle.hc_events.specs.Points.{line_of}
use Rattle.hc_core.specs.Records.{history_read}
use Rattle.hc_core.specs.State.{CoreState}
use Rattle.hc_core.proofs.lemmas.PostFaults.{outputs-listed}
use Rattle.hc_core.proofs.keeping.Core.fits_outputs.Goals as goal

pub returns : goal.returns
returns c =
    let history = history_read c.self.inside.history in
    let task = c.args.task in
    let size : c.from.result ≡ output_length (task_places task (line_of history)) =
    c.from.ensures ∙ ap (λ (pair : ℕ × ℕ). pair.0) (c.part.ensures ∙ ap (λ (t : Table). part_in t task) (c.places.ensures.table ∙ ap (λ (state : State). table_of (line state)) c.self.invariant.state))
    ∙ outputs-listed (line_of history) task c.requires in
    ap (λ (n : ℕ). length c.args.bytes.now == n) size
    ∙ ap (λ (state : CoreState). length c.args.bytes.now == output_length (task_places task (line_of state.history))) c.self.view_is
