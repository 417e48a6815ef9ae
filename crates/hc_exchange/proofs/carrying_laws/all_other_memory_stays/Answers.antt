use Rattle.hc_exchange.proofs.lemmas.Sequences.{all-others}
use Rattle.hc_exchange.proofs.carrying_laws.all_other_memory_stays.Goals as goal

pub returns : goal.returns
returns c = all-others
