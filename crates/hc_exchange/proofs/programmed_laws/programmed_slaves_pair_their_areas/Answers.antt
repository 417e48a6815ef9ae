use Rattle.hc_exchange.proofs.lemmas.Programmed.{programmed-pairs}
use Rattle.hc_exchange.proofs.programmed_laws.programmed_slaves_pair_their_areas.Goals as goal

pub returns : goal.returns
returns c = programmed-pairs
