use Rattle.hc_events.proofs.lemmas.Slots.{slots-fit}
use Rattle.hc_events.proofs.laws.slots_fit.Goals as goal

pub returns : goal.returns
returns c = slots-fit
