use Rattle.hc_records.proofs.lemmas.Parts.{outputs-first}
use Rattle.hc_records.proofs.laws.outputs_come_first.Goals as goal

pub returns : goal.returns
returns c = outputs-first
