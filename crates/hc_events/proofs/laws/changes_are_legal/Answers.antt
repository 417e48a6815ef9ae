use Rattle.hc_events.proofs.lemmas.Changes.{changes-are_legal}
use Rattle.hc_events.proofs.laws.changes_are_legal.Goals as goal

pub returns : goal.returns
returns c history changes reachable = changes-are_legal history changes reachable.accepted
