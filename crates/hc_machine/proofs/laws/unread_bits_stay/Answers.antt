use Rattle.hc_machine.proofs.Lowest.{unread-stays}
use Rattle.hc_machine.proofs.laws.unread_bits_stay.Goals as goal

pub returns : goal.returns
returns c = unread-stays
