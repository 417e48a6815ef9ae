use Rattle.std.proofs.Common.{rules}
use Rattle.hc_core.proofs.ReadyFaults.{into-accepted}
use Rattle.hc_core.proofs.keeping.Core.send_ready_into.Goals as goal

pub returns-clause-accepted : goal.returns-clause-accepted
returns-clause-accepted c = search (rules, into-accepted)
