use Rattle.hc_machine.proofs.Lowest.{unwritten-stays}
use Rattle.hc_machine.proofs.laws.unwritten_bits_stay.Goals as goal

pub returns : goal.returns
returns c = unwritten-stays
