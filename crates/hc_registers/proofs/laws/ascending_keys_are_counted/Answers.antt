use Rattle.hc_registers.proofs.lemmas.Counting.{ascending-counted}
use Rattle.hc_registers.proofs.laws.ascending_keys_are_counted.Goals as goal

pub returns : goal.returns
returns c = ascending-counted
