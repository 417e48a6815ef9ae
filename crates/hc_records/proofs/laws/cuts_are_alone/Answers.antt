use Rattle.hc_records.proofs.Alone.{packed-alone}
use Rattle.hc_records.proofs.laws.cuts_are_alone.Goals as goal

pub returns : goal.returns
returns c = packed-alone
