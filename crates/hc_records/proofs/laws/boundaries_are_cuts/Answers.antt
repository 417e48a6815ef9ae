use Rattle.hc_records.proofs.lemmas.Cuts.{later_keys-cuts}
use Rattle.hc_records.proofs.laws.boundaries_are_cuts.Goals as goal

pub returns : goal.returns
returns c = later_keys-cuts
