-- The output variables of a task lie in its output bytes.
use Rattle.std.proofs.Common.{◌≡◌, ℕ, ◌<◌, sym, ap, ◌∙◌, subst, arith, None}
use Rattle.hc_records.specs.declared.limits.TheConstants.{TASKS}
use Rattle.hc_records.specs.Image.{output_length, task_places}
use Rattle.hc_records.specs.Line.{State, groups_of, line, opened}
use Rattle.hc_records.specs.Project.{lowest_fault}
use Rattle.hc_records.proofs.lemmas.VariablePlaces.{variables-lie, variables-are_placed}
use Rattle.hc_places.specs.Table.{Table, part_in, table_of}
use Rattle.hc_events.specs.UpdatesLaws.{state_after_changes}
use Rattle.hc_events.proofs.lemmas.Changes.{changes-decide}
use Rattle.hc_images.proofs.lemmas.LaidOut.{offset-of_line, place-of_line}
use Rattle.hc_core.proofs.lemmas.PostFaults.{outputs-listed}
use Rattle.hc_publish.specs.ChangesSince.{IsLegal, ChangesSince, table_shown}
use Rattle.hc_conductor.specs.Openings.{IsOpenable}
use Rattle.hc_conductor.proofs.lemmas.Images.{fit_later, fit_opened}
use Rattle.hc_conductor.specs.Posting.{BytesHoldOutputs}

line-holds : (state : State) (task : ℕ) → task < TASKS → lowest_fault (groups_of state.groups) ≡ None → BytesHoldOutputs (table_of (line state)) task (part_in (table_of (line state)) task).0
line-holds state task low none = λ variable place there out own.
    let found = sym (place-of_line (line state) variable) ∙ there in
    let lies = variables-lie state variable place none found in
    let is_placed = (variables-are_placed state variable place found).output out in
    let offset = offset-of_line (line state) place.task place.datagram lies.task lies.datagram in
    let size = outputs-listed (line state) task low ∙ ap (λ (t : ℕ). output_length (task_places t (line state))) (sym own) in
    omega (arith, is_placed, offset, size)

-- where legal changes to a project that can be opened are shown, as many bytes as the task has outputs hold them
pub outputs-hold : (answer_given : ChangesSince) (task : ℕ) → task < TASKS → IsOpenable answer_given.groups → IsLegal answer_given → BytesHoldOutputs (table_shown answer_given) task (part_in (table_shown answer_given) task).0
outputs-hold answer_given task low openable legal =
    let fit = fit_later (opened answer_given.groups) answer_given.changes (fit_opened answer_given.groups openable) legal in
    subst (λ (table : Table). BytesHoldOutputs table task (part_in table task).0) (sym (changes-decide answer_given.groups answer_given.changes legal).table)
    (line-holds (state_after_changes (opened answer_given.groups) answer_given.changes) task low fit.project)
