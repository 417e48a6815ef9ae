use Rattle.std.proofs.Common.{refl}
use Rattle.hc_publish.proofs.Rising.{rises_none}
use Rattle.hc_publish.proofs.publication_log.LogPrefix.opened.Goals as goal

pub open-seen-requires : goal.open-seen-requires
open-seen-requires c = (record { words = refl; rises = rises_none }, λ xs. tt, c.alone.ensures.1)
