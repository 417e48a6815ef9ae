use Rattle.hc_events.proofs.Holders.{mask-bit}
use Rattle.hc_events.proofs.laws.ready.masks_say_their_tasks.Goals as goal

pub returns : goal.returns
returns c = mask-bit
