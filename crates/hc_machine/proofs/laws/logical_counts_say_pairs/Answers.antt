use Rattle.hc_machine.proofs.Counts.{counts-say}
use Rattle.hc_machine.proofs.laws.logical_counts_say_pairs.Goals as goal

pub returns : goal.returns
returns c = counts-say
