use Rattle.std.proofs.Common.{ap}
use Rattle.hc_events.specs.Steady.{steady_slot}
use Rattle.hc_core.specs.State.{CoreState}
use Rattle.hc_core.proofs.keeping.Core.steady_data.Goals as goal

pub returns-clause-slot : goal.returns-clause-slot
returns-clause-slot c = λ low few.
    let is = c.self.invariant.slots c.args.task c.args.number low few in
    let view = ap (λ (state : CoreState). steady_slot state.history c.args.task c.args.number) c.self.view_is in
    cc (c.data.ensures, is, view)
