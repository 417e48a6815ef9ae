use Rattle.hc_events.proofs.Forgetting.{is-forgotten}
use Rattle.hc_events.proofs.laws.forgetting_loses_registers_alone.Goals as goal

pub returns : goal.returns
returns c history station = is-forgotten history station
