use Rattle.hc_events.proofs.lemmas.UnderWay.{good-ends}
use Rattle.hc_events.proofs.laws.under_way.good_answers_end_owing.Goals as goal

pub returns : goal.returns
returns c history arrival block reachable = good-ends history arrival block reachable.accepted
