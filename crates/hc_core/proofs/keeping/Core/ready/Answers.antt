use Rattle.std.proofs.Common.{ap, ◌∙◌}
use Rattle.hc_events.specs.Holding.{is_unplugged, may_hold}
use Rattle.hc_events.specs.Owed.{known_bytes}
use Rattle.hc_events.specs.Points.{state_of}
use Rattle.hc_events.specs.Ready.{ready_mask}
use Rattle.hc_owed.specs.declared.task_set.TaskSet.{TaskSet}
use Rattle.hc_owed.specs.TaskSets.{tasks_where}
use Rattle.hc_core.specs.Agreement.{core_parts}
use Rattle.hc_core.specs.Records.{history_read}
use Rattle.hc_core.specs.State.{CoreState}
use Rattle.hc_core.proofs.Stations.{kept-right}
use Rattle.hc_core.proofs.keeping.Core.ready.Goals as goal

pub returns : goal.returns
unfolding tasks_where
returns c =
    let history = history_read c.self.inside.history in
    let right = kept-right (core_parts c.self.inside) history (history_read c.self.inside.taken.value) c.self.invariant in
    c.bits.ensures ∙ ap (λ (set : TaskSet). set.bits) (c.ready.ensures (known_bytes history) (may_hold history) (is_unplugged history) (state_of history) right)
    ∙ ap (λ (state : CoreState). ready_mask state.history) c.self.view_is
