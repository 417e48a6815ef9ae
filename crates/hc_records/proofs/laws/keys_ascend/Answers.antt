use Rattle.hc_records.proofs.lemmas.Ascending.{keys-ascend}
use Rattle.hc_records.proofs.laws.keys_ascend.Goals as goal

pub returns : goal.returns
returns c = keys-ascend
