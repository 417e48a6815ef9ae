use Rattle.std.proofs.Common.{◌∙◌, ap, length}
use Rattle.hc_events.specs.Owed.{known_bytes, owed_blocks}
use Rattle.hc_events.specs.Points.{state_of}
use Rattle.hc_core.specs.Records.{history_read}
use Rattle.hc_core.specs.State.{CoreState}
use Rattle.hc_core.proofs.keeping.Core.owed.Goals as goal

pub returns : goal.returns
returns c =
    let history = history_read c.self.inside.history in
    c.count.ensures (known_bytes history) (state_of history) (record { right = c.self.invariant.known; project = c.self.invariant.project })
    ∙ ap (λ (state : CoreState). length (owed_blocks state.history)) c.self.view_is
