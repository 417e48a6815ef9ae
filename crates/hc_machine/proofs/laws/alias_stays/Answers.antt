use Rattle.hc_machine.proofs.Alias.{alias-stays}
use Rattle.hc_machine.proofs.laws.alias_stays.Goals as goal

pub returns : goal.returns
returns c = alias-stays
