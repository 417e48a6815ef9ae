use Rattle.hc_events.proofs.lemmas.Changes.{changes-say_all}
use Rattle.hc_events.proofs.laws.changes_show_all.Goals as goal

pub returns : goal.returns
returns c history changes reachable = changes-say_all history changes reachable.accepted
