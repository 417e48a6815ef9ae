use Rattle.hc_events.proofs.lemmas.UnderWay.{further-leaves}
use Rattle.hc_events.proofs.laws.under_way.further_leaves_awaited.Goals as goal

pub returns : goal.returns
returns c history serial sending there none = further-leaves history serial sending there none
