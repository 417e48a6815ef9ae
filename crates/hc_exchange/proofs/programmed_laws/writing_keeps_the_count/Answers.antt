use Rattle.hc_exchange.proofs.lemmas.Programmed.{writing-counts}
use Rattle.hc_exchange.proofs.programmed_laws.writing_keeps_the_count.Goals as goal

pub returns : goal.returns
returns c = writing-counts
