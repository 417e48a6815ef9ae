use Rattle.hc_frames.proofs.lemmas.Replaced.{part-replaced}
use Rattle.hc_frames.proofs.laws.parts_are_replaced.Goals as goal

pub returns : goal.returns
returns c = part-replaced
