use Rattle.hc_core.proofs.Fills.{pieces}
use Rattle.hc_core.proofs.laws.pieces_are_the_event.Goals as goal

pub returns : goal.returns
returns c = pieces
