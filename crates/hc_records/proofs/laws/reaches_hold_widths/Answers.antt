use Rattle.hc_records.proofs.lemmas.Reaches.{reaches-hold}
use Rattle.hc_records.proofs.laws.reaches_hold_widths.Goals as goal

pub returns : goal.returns
returns c = reaches-hold
