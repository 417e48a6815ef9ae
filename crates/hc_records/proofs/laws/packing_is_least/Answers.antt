use Rattle.hc_records.proofs.lemmas.Least.{packing-least}
use Rattle.hc_records.proofs.laws.packing_is_least.Goals as goal

pub returns : goal.returns
returns c = packing-least
