use Rattle.std.proofs.Common.{ap, sym, ◌∙◌}
use Rattle.std.specs.Prelude.{slice_get}
use Rattle.hc_events.specs.Holding.{is_unplugged, may_hold}
use Rattle.hc_events.specs.Owed.{known_bytes}
use Rattle.hc_events.specs.Points.{state_of}
use Rattle.hc_events.specs.Ready.{held_by}
use Rattle.hc_owed.specs.RegisterState.{RegisterState}
use Rattle.hc_core.specs.Agreement.{core_parts}
use Rattle.hc_core.specs.Records.{history_read}
use Rattle.hc_core.specs.State.{CoreState}
use Rattle.hc_core.proofs.Stations.{kept-right}
use Rattle.hc_core.proofs.keeping.Core.held_by.Goals as goal

pub returns-in_err-index : goal.returns-in_err-index
returns-in_err-index c =
    let history = history_read c.self.inside.history in
    let right = kept-right (core_parts c.self.inside) history (history_read c.self.inside.taken.value) c.self.invariant in
    c.from_residual.ensures ∙ sym (c.in_err-index.ensures (known_bytes history) (may_hold history) (is_unplugged history) (state_of history) right)
    ∙ ap (λ (state : CoreState). held_by state.history c.args.task c.args.n) c.self.view_is

pub returns : goal.returns
returns c =
    let history = history_read c.self.inside.history in
    let right = kept-right (core_parts c.self.inside) history (history_read c.self.inside.taken.value) c.self.invariant in
    let found = c.in_ok-index.ensures (known_bytes history) (may_hold history) (is_unplugged history) (state_of history) right in
    c.station.ensures ∙ ap (slice_get c.self.inside.owed.stations) c.from.ensures
    ∙ ap (λ (owed : RegisterState). slice_get owed.stations c.in_ok-index.index) c.self.invariant.known ∙ sym found.is
    ∙ ap (λ (state : CoreState). held_by state.history c.args.task c.args.n) c.self.view_is
