use Rattle.std.proofs.Common.{◌∙◌, ap, sym, cond, map, Some, None}
use Rattle.std.specs.List.{range_with_len}
use Rattle.hc_records.specs.Image.{datagram_count, task_places}
use Rattle.hc_records.specs.Line.{State, line}
use Rattle.hc_places.specs.Table.{datagrams_in}
use Rattle.hc_events.specs.declared.answer.Answer.TheVariants.{Image}
use Rattle.hc_events.specs.declared.faults.CoreFault.TheVariants.{NoSuchTask}
use Rattle.hc_events.specs.Points.{epoch_of}
use Rattle.hc_events.specs.Images.{slot_of}
use Rattle.hc_events.specs.Steps.{image_of, is_no_task, unless}
use Rattle.hc_events.proofs.lemmas.Epochs.{epochs-counted}
use Rattle.hc_events.proofs.lemmas.Views.{is_task}
use Rattle.hc_sendings.proofs.lemmas.Listed.{listed-count}
use Rattle.hc_core.specs.Records.{history_read}
use Rattle.hc_core.specs.State.{CoreState}
use Rattle.hc_core.proofs.keeping.Core.image.Goals as goal

pub returns-clause-answer : goal.returns-clause-answer
returns-clause-answer c =
    let unchanged = c.self.invariant in
    let history = history_read c.self.inside.history in
    let task = c.args.task in
    let count = listed-count c.self.inside.plan task c.datagrams.result.now c.places.ensures.project (c.datagrams.ensures.datagrams ∙ ap (λ table. datagrams_in table task) c.places.ensures.table) in
    let slots = c.in_ok-slots.ensures
    ∙ ap (λ n. map (slot_of c.args.self.now.history task) (range_with_len 0 n)) count
    ∙ ap (λ (core : CoreState). map (slot_of core.history task) (range_with_len 0 (datagram_count (task_places task (line c.self.inside.plan))))) (sym c.self.view_is)
    ∙ ap (λ (state : State). map (slot_of history task) (range_with_len 0 (datagram_count (task_places task (line state))))) unchanged.state in
    let epoch = c.epoch-epoch.ensures ∙ ap (λ (state : State). state.epoch) unchanged.state ∙ epochs-counted history unchanged.accepted in
    ap (λ n. Image n c.in_ok-slots.slots) epoch
    ∙ ap (Image (epoch_of history)) slots
    ∙ sym (ap (λ b. unless (cond b (Some NoSuchTask) None) (image_of history task)) (is_task task c.if-task-ge-TASKS.false))
    ∙ ap (λ (state : CoreState). unless (cond (is_no_task task) (Some NoSuchTask) None) (image_of state.history task)) c.self.view_is
