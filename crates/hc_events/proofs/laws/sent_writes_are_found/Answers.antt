use Rattle.hc_events.proofs.Proposals.{writes-found}
use Rattle.hc_events.proofs.laws.sent_writes_are_found.Goals as goal

pub returns : goal.returns
returns c = writes-found
