use Rattle.hc_places.proofs.lemmas.Swaps.{swaps-ascend}
use Rattle.hc_places.proofs.laws.swaps_keep_the_order.Goals as goal

pub returns : goal.returns
returns c change table ascends = swaps-ascend change table ascends
