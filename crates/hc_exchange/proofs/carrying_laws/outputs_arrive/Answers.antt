use Rattle.hc_exchange.proofs.lemmas.Lines.{outputs-arrive}
use Rattle.hc_exchange.proofs.carrying_laws.outputs_arrive.Goals as goal

pub returns : goal.returns
returns c = outputs-arrive
