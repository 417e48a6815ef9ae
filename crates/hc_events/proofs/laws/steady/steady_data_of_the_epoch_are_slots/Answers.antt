use Rattle.hc_events.proofs.lemmas.Steady.{steady-slots}
use Rattle.hc_events.proofs.laws.steady.steady_data_of_the_epoch_are_slots.Goals as goal

pub returns : goal.returns
returns c = steady-slots
