use Rattle.hc_exchange.proofs.lemmas.Sources.{lines-pair}
use Rattle.hc_exchange.proofs.programmed_laws.lines_pair_their_areas.Goals as goal

pub returns : goal.returns
returns c = lines-pair
