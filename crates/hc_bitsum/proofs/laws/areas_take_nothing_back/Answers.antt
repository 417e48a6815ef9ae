use Rattle.hc_bitsum.proofs.Ends.{with_area-le}
use Rattle.hc_bitsum.proofs.laws.areas_take_nothing_back.Goals as goal

pub returns : goal.returns
returns c = with_area-le
