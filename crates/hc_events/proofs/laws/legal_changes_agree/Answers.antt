use Rattle.hc_events.proofs.lemmas.Changes.{changes-agree}
use Rattle.hc_events.proofs.laws.legal_changes_agree.Goals as goal

pub returns : goal.returns
returns c = changes-agree
