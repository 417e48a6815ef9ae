use Rattle.hc_machine.proofs.Paired.{pairs-are-blocks}
use Rattle.hc_machine.proofs.laws.fmmus_are_their_pairs.Goals as goal

pub returns : goal.returns
returns c = pairs-are-blocks
