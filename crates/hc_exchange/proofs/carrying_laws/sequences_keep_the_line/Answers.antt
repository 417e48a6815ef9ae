use Rattle.hc_exchange.proofs.lemmas.Sequences.{all-keep}
use Rattle.hc_exchange.proofs.carrying_laws.sequences_keep_the_line.Goals as goal

pub returns : goal.returns
returns c = all-keep
