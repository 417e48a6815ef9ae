use Rattle.std.proofs.Common.{rules}
use Rattle.hc_machine.specs.Memory.{zeros}
use Rattle.hc_machine.proofs.machine.zeros.Goals as goal

pub returns : goal.returns
unfolding zeros
returns c = search rules
