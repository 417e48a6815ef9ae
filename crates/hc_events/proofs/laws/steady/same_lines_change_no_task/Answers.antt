use Rattle.hc_events.specs.Entries.{Edited}
use Rattle.hc_events.specs.Points.{state_of}
use Rattle.std.proofs.Common.{◌∷◌}
use Rattle.hc_events.proofs.lemmas.Unchanged.{same-changes}
use Rattle.hc_events.proofs.laws.steady.same_lines_change_no_task.Goals as goal

pub returns : goal.returns
returns c history edit task same = same-changes (state_of history) (state_of (Edited edit ∷ history)) task same
