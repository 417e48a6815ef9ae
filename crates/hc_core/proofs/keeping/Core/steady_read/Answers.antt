use Rattle.std.proofs.Common.{◌<◌, ◌≤◌, ◌∙◌, ap, arith, sym, subst, cond, map, Some, None}
use Rattle.std.specs.List.{range_with_len}
use Rattle.hc_records.specs.declared.limits.TheConstants.{MOST_DATAGRAMS, TASKS}
use Rattle.hc_records.specs.Image.{datagram_count, task_places}
use Rattle.hc_records.specs.Line.{State, line}
use Rattle.hc_places.specs.Table.{datagrams_in}
use Rattle.hc_events.specs.declared.answer.Answer.TheVariants.{Image}
use Rattle.hc_events.specs.declared.faults.CoreFault.TheVariants.{NoSuchTask}
use Rattle.hc_events.specs.Points.{epoch_of}
use Rattle.hc_events.specs.Steady.{steady_slot}
use Rattle.hc_events.specs.Steps.{is_no_task, unless}
use Rattle.hc_events.proofs.lemmas.Epochs.{epochs-counted}
use Rattle.hc_events.proofs.lemmas.Views.{is_task}
use Rattle.hc_sendings.proofs.lemmas.Listed.{listed-count}
use Rattle.hc_images.specs.Image.{data_of_first}
use Rattle.hc_core.specs.Records.{history_read}
use Rattle.hc_core.proofs.Shown.{slots-shown}
use Rattle.hc_core.specs.State.{CoreState}
use Rattle.hc_core.specs.Steady.{steady_slots}
use Rattle.hc_core.proofs.keeping.Core.steady_read.Goals as goal

pub returns-clause-answer : goal.returns-clause-answer
returns-clause-answer c =
    let unchanged = c.self.invariant in
    let history = history_read c.self.inside.history in
    let task = c.args.task in
    let image = c.self.inside.inputs in
    let low : task < TASKS = omega (arith, c.if-task-ge-TASKS.false) in
    let count = listed-count c.self.inside.plan task c.datagrams.result.now c.places.ensures.project (c.datagrams.ensures.datagrams ∙ ap (λ table. datagrams_in table task) c.places.ensures.table) in
    let few : datagram_count (task_places task (line c.self.inside.plan)) ≤ MOST_DATAGRAMS = subst (λ n. n ≤ MOST_DATAGRAMS) count c.datagrams.ensures.few in
    let slots = c.in_ok-slots.ensures ∙ ap (data_of_first image task) count
    ∙ slots-shown history image task (datagram_count (task_places task (line c.self.inside.plan))) unchanged.slots low few
    ∙ ap (λ (state : State). map (steady_slot history task) (range_with_len 0 (datagram_count (task_places task (line state))))) unchanged.state in
    let epoch = c.epoch-epoch.ensures ∙ ap (λ (state : State). state.epoch) unchanged.state ∙ epochs-counted history unchanged.accepted in
    ap (λ n. Image n c.in_ok-slots.slots) epoch
    ∙ ap (Image (epoch_of history)) slots
    ∙ sym (ap (λ b. unless (cond b (Some NoSuchTask) None) (Image (epoch_of history) (steady_slots history task))) (is_task task c.if-task-ge-TASKS.false))
    ∙ ap (λ (state : CoreState). unless (cond (is_no_task task) (Some NoSuchTask) None) (Image (epoch_of state.history) (steady_slots state.history task))) c.self.view_is
