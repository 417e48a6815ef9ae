use Rattle.hc_machine.proofs.Lowest.{read-from-memory}
use Rattle.hc_machine.proofs.laws.read_bits_come_from_memory.Goals as goal

pub returns : goal.returns
returns c = read-from-memory
