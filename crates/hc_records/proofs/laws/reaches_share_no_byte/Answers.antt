use Rattle.hc_records.proofs.lemmas.Reaches.{reaches-apart}
use Rattle.hc_records.proofs.laws.reaches_share_no_byte.Goals as goal

pub returns : goal.returns
returns c = reaches-apart
