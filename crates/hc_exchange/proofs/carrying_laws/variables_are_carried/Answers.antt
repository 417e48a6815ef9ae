use Rattle.hc_exchange.proofs.lemmas.Variables.{variables-carried}
use Rattle.hc_exchange.proofs.carrying_laws.variables_are_carried.Goals as goal

pub returns : goal.returns
returns c = variables-carried
