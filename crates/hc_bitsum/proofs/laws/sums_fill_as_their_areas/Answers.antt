use Rattle.hc_bitsum.proofs.Ends.{ended-sum_of}
use Rattle.hc_bitsum.proofs.laws.sums_fill_as_their_areas.Goals as goal

pub returns : goal.returns
returns c = ended-sum_of
