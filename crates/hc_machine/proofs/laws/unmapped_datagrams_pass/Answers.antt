use Rattle.hc_machine.proofs.Unmapped.{unmapped-pass}
use Rattle.hc_machine.proofs.laws.unmapped_datagrams_pass.Goals as goal

pub returns : goal.returns
returns c = unmapped-pass
