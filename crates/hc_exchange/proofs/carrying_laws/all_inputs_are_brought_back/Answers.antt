use Rattle.hc_exchange.proofs.lemmas.Sequences.{all-inputs}
use Rattle.hc_exchange.proofs.carrying_laws.all_inputs_are_brought_back.Goals as goal

pub returns : goal.returns
returns c = all-inputs
