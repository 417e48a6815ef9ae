use Rattle.hc_machine.proofs.lemmas.Passed.{sizes-stay}
use Rattle.hc_machine.proofs.laws.sizes_stay.Goals as goal

pub returns : goal.returns
returns c = sizes-stay
