use Rattle.hc_registers.proofs.lemmas.Registers.{blocks-apart}
use Rattle.hc_registers.proofs.laws.blocks_are_apart.Goals as goal

pub returns : goal.returns
returns c = blocks-apart
