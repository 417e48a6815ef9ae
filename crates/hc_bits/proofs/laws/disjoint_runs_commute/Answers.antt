use Rattle.hc_bits.proofs.lemmas.Places.{replacements_commute}
use Rattle.hc_bits.proofs.laws.disjoint_runs_commute.Goals as goal

pub returns : goal.returns
returns c = replacements_commute
