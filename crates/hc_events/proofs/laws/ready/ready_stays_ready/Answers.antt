use Rattle.std.proofs.Common.{◌++◌}
use Rattle.hc_events.proofs.lemmas.ReadyEdits.{ready-waits, waits-ready}
use Rattle.hc_events.proofs.lemmas.ReadyStays.{all-free}
use Rattle.hc_events.proofs.laws.ready.ready_stays_ready.Goals as goal

pub returns : goal.returns
returns c since history task reachable project uncrowded spared ready =
    waits-ready (since ++ history) task ((all-free since history task project uncrowded spared (ready-waits history task ready)).free reachable.accepted)
