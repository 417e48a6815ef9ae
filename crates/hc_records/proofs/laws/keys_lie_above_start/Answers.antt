use Rattle.hc_records.proofs.lemmas.Ascending.{keys-above-start}
use Rattle.hc_records.proofs.laws.keys_lie_above_start.Goals as goal

pub returns : goal.returns
returns c = keys-above-start
