use Rattle.hc_records.proofs.Touched.{touched-unsettled}
use Rattle.hc_records.proofs.laws.touched_counts_once.Goals as goal

pub returns : goal.returns
returns c = touched-unsettled
