use Rattle.hc_events.proofs.lemmas.Owed.{unmoved-is_owed}
use Rattle.hc_events.proofs.laws.unmoved_is_owed_as_before.Goals as goal

pub returns : goal.returns
returns c = unmoved-is_owed
