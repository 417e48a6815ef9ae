use Rattle.hc_rings.proofs.lemmas.Ended.{taken_then_left}
use Rattle.hc_rings.proofs.laws.taken_then_left_is_posted.Goals as goal

pub returns : goal.returns
returns c = taken_then_left
