use Rattle.hc_machine.proofs.Lowest.{written-from-data}
use Rattle.hc_machine.proofs.laws.written_bits_come_from_data.Goals as goal

pub returns : goal.returns
returns c = written-from-data
