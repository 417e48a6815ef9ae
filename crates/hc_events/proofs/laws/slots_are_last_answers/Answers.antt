use Rattle.hc_events.proofs.lemmas.Changes.{slots-last}
use Rattle.hc_events.proofs.laws.slots_are_last_answers.Goals as goal

pub returns : goal.returns
returns c = slots-last
