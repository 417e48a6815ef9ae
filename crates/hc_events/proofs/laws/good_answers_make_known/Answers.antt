use Rattle.hc_events.proofs.lemmas.Confirmed.{known-came}
use Rattle.hc_events.proofs.laws.good_answers_make_known.Goals as goal

pub returns : goal.returns
returns c = known-came
