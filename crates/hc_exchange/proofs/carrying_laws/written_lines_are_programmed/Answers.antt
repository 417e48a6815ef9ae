use Rattle.hc_exchange.proofs.lemmas.Ready.{written-programmed}
use Rattle.hc_exchange.proofs.carrying_laws.written_lines_are_programmed.Goals as goal

pub returns : goal.returns
returns c = written-programmed
