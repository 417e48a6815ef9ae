use Rattle.hc_records.specs.Packing.{empty_front}
use Rattle.hc_records.proofs.Aligned.{packed-begins}
use Rattle.hc_records.proofs.laws.wide_areas_begin_bytes.Goals as goal

pub returns : goal.returns
returns c list = packed-begins empty_front list
