use Rattle.hc_events.proofs.lemmas.Steady.{slots-steady}
use Rattle.hc_events.proofs.laws.steady.slots_are_steady.Goals as goal

pub returns : goal.returns
returns c = slots-steady
