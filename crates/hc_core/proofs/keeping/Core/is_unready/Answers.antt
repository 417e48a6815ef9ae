use Rattle.std.proofs.Common.{◌≡◌, ◌||◌, Bool, not, false, sym, ap, ◌∙◌, arith}
use Rattle.std.proofs.lemmas.Bool.{lt-ltb}
use Rattle.hc_records.specs.declared.limits.TheConstants.{TASKS}
use Rattle.hc_events.specs.Holding.{is_unplugged, may_hold}
use Rattle.hc_events.specs.Owed.{known_bytes}
use Rattle.hc_events.specs.Points.{state_of}
use Rattle.hc_events.specs.Ready.{is_ready}
use Rattle.hc_events.specs.Steps.{is_no_task}
use Rattle.hc_core.specs.Agreement.{core_parts}
use Rattle.hc_core.specs.Records.{history_read}
use Rattle.hc_core.specs.State.{CoreState}
use Rattle.hc_core.proofs.Stations.{kept-right}
use Rattle.hc_core.proofs.keeping.Core.is_unready.Goals as goal

pub returns : goal.returns
returns c =
    let history = history_read c.self.inside.history in
    let right = kept-right (core_parts c.self.inside) history (history_read c.self.inside.taken.value) c.self.invariant in
    let ready = c.is_ready.ensures (known_bytes history) (may_hold history) (is_unplugged history) (state_of history) right ∙ ap (λ (state : CoreState). is_ready state.history c.args.task) c.self.view_is in
    let own : is_no_task c.args.task ≡ false = ap not (lt-ltb c.args.task TASKS (omega (arith, c.if-task-ge-TASKS.false))) in
    ap not ready ∙ sym (ap (λ (other : Bool). other || not (is_ready c.args.self.now.history c.args.task)) own)
