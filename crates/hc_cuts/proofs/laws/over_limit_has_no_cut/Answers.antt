use Rattle.std.proofs.Common.{arith}
use Rattle.hc_records.proofs.lemmas.Least.{packing-least}
use Rattle.hc_cuts.proofs.laws.over_limit_has_no_cut.Goals as goal

pub returns : goal.returns
returns c list parts over_limit joined fitting = grind (arith, packing-least)
