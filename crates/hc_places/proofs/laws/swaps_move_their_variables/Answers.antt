use Rattle.hc_places.proofs.lemmas.Swaps.{swaps-move}
use Rattle.hc_places.proofs.laws.swaps_move_their_variables.Goals as goal

pub returns : goal.returns
returns c change table ascends variable = swaps-move change table ascends variable
