use Rattle.hc_events.proofs.lemmas.Changes.{changes-decide}
use Rattle.hc_events.proofs.laws.legal_changes_decide.Goals as goal

pub returns : goal.returns
returns c = changes-decide
