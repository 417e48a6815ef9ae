use Rattle.hc_exchange.proofs.lemmas.Lines.{line-stays}
use Rattle.hc_exchange.proofs.carrying_laws.lines_stay_programmed.Goals as goal

pub returns : goal.returns
returns c = line-stays
