use Rattle.hc_records.proofs.lemmas.VariablePlaces.{variables-lie}
use Rattle.hc_records.proofs.laws.variables_lie_in_datagrams.Goals as goal

pub returns : goal.returns
returns c = variables-lie
