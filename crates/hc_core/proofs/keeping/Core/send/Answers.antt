use Rattle.std.proofs.Common.{◌≡◌, length, subst}
use Rattle.std.specs.Prelude.{Err, IfSome}
use Rattle.hc_records.specs.Lists.{lowest}
use Rattle.hc_events.specs.declared.faults.CoreFault.{CoreFault}
use Rattle.hc_events.specs.Owed.{owed_blocks}
use Rattle.hc_sendings.specs.Refusals.{early_faults}
use Rattle.hc_core.specs.State.{CoreState}
use Rattle.hc_core.proofs.keeping.Core.send.Goals as goal

pub returns-clause-early : goal.returns-clause-early
returns-clause-early c =
    subst (λ (state : CoreState). IfSome (lowest (early_faults (length (owed_blocks state.history)) c.args.tasks.now)) (λ (fault : CoreFault). c.send_by-returned.result ≡ Err fault)) c.self.view_is c.send_by-returned.ensures.early
