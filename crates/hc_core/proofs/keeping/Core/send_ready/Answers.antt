use Rattle.std.proofs.Common.{◌≡◌, subst}
use Rattle.std.specs.Prelude.{Err, IfSome}
use Rattle.hc_records.specs.Lists.{lowest}
use Rattle.hc_events.specs.declared.faults.CoreFault.{CoreFault}
use Rattle.hc_core.specs.Early.{early_ready_faults}
use Rattle.hc_core.specs.State.{CoreState}
use Rattle.hc_core.proofs.keeping.Core.send_ready.Goals as goal

pub returns-clause-early : goal.returns-clause-early
returns-clause-early c =
    subst (λ (state : CoreState). IfSome (lowest (early_ready_faults state.history c.args.tasks.now)) (λ (fault : CoreFault). c.send_ready_by-returned.result ≡ Err fault)) c.self.view_is c.send_ready_by-returned.ensures.early
