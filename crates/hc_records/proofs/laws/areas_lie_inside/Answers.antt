use Rattle.hc_records.specs.Packing.{empty_front}
use Rattle.hc_records.proofs.lemmas.Inside.{packed-inside}
use Rattle.hc_records.proofs.laws.areas_lie_inside.Goals as goal

pub returns : goal.returns
returns c = packed-inside empty_front
