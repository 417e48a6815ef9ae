use Rattle.std.proofs.Common.{refl}
use Rattle.hc_bitsum.proofs.Ends.{joined-Empty}
use Rattle.hc_bitsum.proofs.laws.empty_is_neutral.Goals as goal

pub returns : goal.returns
returns c = record { before = λ sum. refl; after_it = joined-Empty }
