use Rattle.hc_bitsum.proofs.Ends.{joined-assoc}
use Rattle.hc_bitsum.proofs.laws.joining_is_associative.Goals as goal

pub returns : goal.returns
returns c = joined-assoc
