use Rattle.std.proofs.Common.{length, ap, ◌∙◌}
use Rattle.hc_events.specs.Holding.{is_unplugged, may_hold}
use Rattle.hc_events.specs.Owed.{known_bytes}
use Rattle.hc_events.specs.Points.{state_of}
use Rattle.hc_events.specs.Ready.{waited_for, waited_for_outside}
use Rattle.hc_core.specs.Agreement.{core_parts}
use Rattle.hc_core.specs.Records.{history_read}
use Rattle.hc_core.specs.State.{CoreState}
use Rattle.hc_core.proofs.Stations.{kept-right}
use Rattle.hc_core.proofs.keeping.Core.waiting_for.Goals as goal

pub returns-clause-blocks : goal.returns-clause-blocks
returns-clause-blocks c =
    let history = history_read c.self.inside.history in
    let right = kept-right (core_parts c.self.inside) history (history_read c.self.inside.taken.value) c.self.invariant in
    c.waiting.ensures (known_bytes history) (may_hold history) (is_unplugged history) (state_of history) right
    ∙ ap (λ (state : CoreState). length (waited_for state.history c.args.task)) c.self.view_is

pub returns-clause-outside : goal.returns-clause-outside
returns-clause-outside c =
    let history = history_read c.self.inside.history in
    let right = kept-right (core_parts c.self.inside) history (history_read c.self.inside.taken.value) c.self.invariant in
    c.outside.ensures (known_bytes history) (may_hold history) (is_unplugged history) (state_of history) right
    ∙ ap (λ (state : CoreState). length (waited_for_outside state.history c.args.task)) c.self.view_is
