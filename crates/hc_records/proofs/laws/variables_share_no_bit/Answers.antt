use Rattle.hc_records.proofs.lemmas.VariableBits.{variables-apart}
use Rattle.hc_records.proofs.laws.variables_share_no_bit.Goals as goal

pub returns : goal.returns
returns c = variables-apart
