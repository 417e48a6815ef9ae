use Rattle.hc_program.proofs.Machines.{slaves-have}
use Rattle.hc_program.proofs.laws.slaves_have_machines.Goals as goal

pub returns : goal.returns
returns c = slaves-have
