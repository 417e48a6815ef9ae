use Rattle.hc_events.proofs.lemmas.UnderWay.{under_way-owed}
use Rattle.hc_events.proofs.laws.under_way.under_way_is_owed.Goals as goal

pub returns : goal.returns
returns c history block under = under_way-owed history block under
