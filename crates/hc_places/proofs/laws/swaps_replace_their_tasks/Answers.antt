use Rattle.hc_places.proofs.lemmas.Swaps.{swaps-replace}
use Rattle.hc_places.proofs.laws.swaps_replace_their_tasks.Goals as goal

pub returns : goal.returns
returns c change table ascends task = swaps-replace change table ascends task
