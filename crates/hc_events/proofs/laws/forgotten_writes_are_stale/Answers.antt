use Rattle.hc_events.proofs.Forgetting.{forgotten-stale}
use Rattle.hc_events.proofs.laws.forgotten_writes_are_stale.Goals as goal

pub returns : goal.returns
returns c history arrival sending station answered forgotten = forgotten-stale history arrival sending station answered forgotten
