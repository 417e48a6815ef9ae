use Rattle.hc_bitsum.proofs.Ends.{ended-le}
use Rattle.hc_bitsum.proofs.laws.ends_never_fall.Goals as goal

pub returns : goal.returns
returns c = ended-le
