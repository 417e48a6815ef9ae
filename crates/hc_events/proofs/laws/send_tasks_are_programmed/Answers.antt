use Rattle.hc_events.proofs.Programmed.{tasks-programmed}
use Rattle.hc_events.proofs.laws.send_tasks_are_programmed.Goals as goal

pub returns : goal.returns
returns c = tasks-programmed
