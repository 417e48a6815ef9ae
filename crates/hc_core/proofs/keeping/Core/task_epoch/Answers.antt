use Rattle.std.proofs.Common.{ap}
use Rattle.hc_events.specs.Steady.{task_epoch}
use Rattle.hc_core.specs.State.{CoreState}
use Rattle.hc_core.proofs.keeping.Core.task_epoch.Goals as goal

pub returns-clause-epoch : goal.returns-clause-epoch
returns-clause-epoch c = λ low.
    let is = c.self.invariant.epochs c.args.task low in
    let view = ap (λ (state : CoreState). task_epoch state.history c.args.task) c.self.view_is in
    cc (c.from.ensures, is, view)
