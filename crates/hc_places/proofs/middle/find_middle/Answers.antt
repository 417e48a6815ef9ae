use Rattle.std.proofs.Common.{arith, get_or}
use Rattle.std.proofs.lemmas.List.{get_or_default}
use Rattle.hc_places.proofs.Reached.{lower-next}
use Rattle.hc_places.proofs.Walked.{by-order}
use Rattle.hc_places.proofs.middle.find_middle.Goals as goal

pub loop-i-preserved : goal.loop-i-preserved
loop-i-preserved c = grind (arith, lower-next, by-order, get_or, get_or_default)
