use Rattle.hc_events.proofs.lemmas.Steady.{edit-moves}
use Rattle.hc_events.proofs.laws.steady.edits_move_task_epochs.Goals as goal

pub returns : goal.returns
returns c = edit-moves
