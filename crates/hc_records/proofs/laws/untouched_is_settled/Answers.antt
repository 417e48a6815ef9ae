use Rattle.hc_records.proofs.Settled.{untouched-spans}
use Rattle.hc_records.proofs.laws.untouched_is_settled.Goals as goal

pub returns : goal.returns
returns c = untouched-spans
