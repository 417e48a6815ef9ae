use Rattle.hc_events.proofs.lemmas.Views.{changes-lead_on}
use Rattle.hc_events.proofs.laws.changes_lead_on.Goals as goal

pub returns : goal.returns
returns c = changes-lead_on
