use Rattle.hc_c.proofs.Offset.{reads-hold}
use Rattle.hc_c.proofs.laws.reads_hold_by_offset.Goals as goal

pub returns : goal.returns
returns c = reads-hold
