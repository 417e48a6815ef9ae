use Rattle.hc_records.proofs.lemmas.VariablePlaces.{variables-are_placed}
use Rattle.hc_records.proofs.laws.variables_are_in_their_parts.Goals as goal

pub returns : goal.returns
returns c = variables-are_placed
