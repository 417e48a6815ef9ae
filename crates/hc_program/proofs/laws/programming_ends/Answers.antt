use Rattle.hc_program.proofs.Ending.{programming-ends}
use Rattle.hc_program.proofs.laws.programming_ends.Goals as goal

pub returns : goal.returns
returns c = programming-ends
