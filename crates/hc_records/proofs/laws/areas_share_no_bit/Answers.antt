use Rattle.hc_records.specs.Packing.{empty_front}
use Rattle.hc_records.proofs.Apart.{packed-apart}
use Rattle.hc_records.proofs.laws.areas_share_no_bit.Goals as goal

pub returns : goal.returns
returns c list = packed-apart empty_front list
