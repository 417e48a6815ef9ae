use Rattle.hc_events.proofs.lemmas.Epochs.{epochs-counted}
use Rattle.hc_events.proofs.laws.epochs_are_counted.Goals as goal

pub returns : goal.returns
returns c history reachable = epochs-counted history reachable.accepted
