use Rattle.hc_exchange.proofs.lemmas.Sequences.{all-outputs}
use Rattle.hc_exchange.proofs.carrying_laws.all_outputs_arrive.Goals as goal

pub returns : goal.returns
returns c = all-outputs
