use Rattle.hc_events.proofs.lemmas.UnderWay.{as-at_first}
use Rattle.hc_events.proofs.laws.under_way.further_is_as_at_first.Goals as goal

pub returns : goal.returns
returns c history all = as-at_first history all
