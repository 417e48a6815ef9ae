use Rattle.std.proofs.Common.{◌≡◌, ℕ, ◌∷◌, ◌++◌, [], ◌∙◌, List, ap, arith, subst, sym}
use Rattle.hc_records.specs.Edits.{state_after}
use Rattle.hc_records.specs.Line.{State, line}
use Rattle.hc_places.specs.Swap.{Swap}
use Rattle.hc_places.specs.Table.{Table, table_of}
use Rattle.hc_plan.specs.declared.report.Report.{Report}
use Rattle.hc_images.specs.Moves.{moved_table}
use Rattle.hc_images.specs.Packed.{HasSizes, IsLaidOut}
use Rattle.hc_images.specs.Values.{KeepEntries}
use Rattle.hc_images.proofs.lemmas.Entries.{edit-keeps_entries}
use Rattle.hc_images.proofs.lemmas.LaidOut.{line-laid_out}
use Rattle.hc_sendings.specs.Waiting.{Waiting, nothing}
use Rattle.hc_events.specs.declared.answer.Answer.TheVariants as answer
use Rattle.hc_events.specs.declared.change.Change.{Change}
use Rattle.hc_events.specs.declared.change.Change.TheVariants as change
use Rattle.hc_events.specs.Entries.{History, Edited}
use Rattle.hc_events.specs.Points.{state_of}
use Rattle.hc_events.specs.Steps.{edit_answer}
use Rattle.hc_core.specs.Records.{history_read}
use Rattle.hc_core.proofs.Edits.{after-is, agree-carried, can-follow, count-waiting, edited-answer_given, new-project, still-here, table-leads}
use Rattle.hc_core.specs.Changed.{RaisesTasks}
use Rattle.hc_core.specs.Agreement.{Agree, CoreParts, core_parts, state_in}
use Rattle.hc_core.specs.State.{CoreState}
use Rattle.hc_core.proofs.keeping.Core.carry.Goals as goal

pub follow-blocks-requires : goal.follow-blocks-requires
follow-blocks-requires c =
    let can = still-here (state_in c.self.inside) c.args.self.now c.args.planned c.self.view_is c.requires in
    can-follow (core_parts c.self.inside) (history_read c.self.inside.history) (history_read c.self.inside.taken.value) c.args.planned can c.self.invariant

pub changed_tasks-changed-requires-clause-table : goal.changed_tasks-changed-requires-clause-table
changed_tasks-changed-requires-clause-table c =
    let can = still-here (state_in c.self.inside) c.args.self.now c.args.planned c.self.view_is c.requires in
    c.places.ensures.table ∙ ap (λ (state : State). table_of (line state)) (c.self.invariant.state ∙ sym can.made)

pub changed_tasks-changed-requires-clause-made : goal.changed_tasks-changed-requires-clause-made
changed_tasks-changed-requires-clause-made c =
    let can = still-here (state_in c.self.inside) c.args.self.now c.args.planned c.self.view_is c.requires in
    record { history = history_read c.self.inside.history; made = can.made }

pub changed_tasks-changed-requires-clause-prepared : goal.changed_tasks-changed-requires-clause-prepared
changed_tasks-changed-requires-clause-prepared c = c.requires.prepared

pub changed_tasks-changed-requires-clause-blocks : goal.changed_tasks-changed-requires-clause-blocks
changed_tasks-changed-requires-clause-blocks c = c.follow-blocks.ensures.tasks

pub change-requires-clause-laid : goal.change-requires-clause-laid
change-requires-clause-laid c =
    let can = still-here (state_in c.self.inside) c.args.self.now c.args.planned c.self.view_is c.requires in
    subst IsLaidOut (sym can.table) (line-laid_out (state_of (history_read c.self.inside.history)) c.self.invariant.project c.self.invariant.uncrowded)

pub change-requires-clause-laid_out : goal.change-requires-clause-laid_out
change-requires-clause-laid_out c =
    let can = still-here (state_in c.self.inside) c.args.self.now c.args.planned c.self.view_is c.requires in
    let edit = c.args.planned.edit in
    let prepared = can.prepared in
    subst IsLaidOut (sym (table-leads (state_in c.self.inside) c.args.planned can))
    (line-laid_out edit.new (new-project edit prepared) prepared.crowds.1)

pub change-requires-clause-entries : goal.change-requires-clause-entries
change-requires-clause-entries c =
    let can = still-here (state_in c.self.inside) c.args.self.now c.args.planned c.self.view_is c.requires in
    let edit = c.args.planned.edit in
    let moves = c.args.planned.moves in
    let prepared = can.prepared in
    let asked = edit.report.swap.edit in
    subst (λ (table : Table). KeepEntries table (moved_table moves)) (ap (λ (state : State). table_of (line state)) can.made ∙ sym can.table)
    (subst (λ (table : Table). KeepEntries (table_of (line edit.old)) table) (sym (table-leads (state_in c.self.inside) c.args.planned can))
    (subst (λ (state : State). KeepEntries (table_of (line edit.old)) (table_of (line state))) (after-is edit.old asked edit.new prepared.accepted) (edit-keeps_entries edit.old asked prepared.project)))

pub change-requires-clause-sizes : goal.change-requires-clause-sizes
change-requires-clause-sizes c =
    let can = still-here (state_in c.self.inside) c.args.self.now c.args.planned c.self.view_is c.requires in
    subst (λ (table : Table). HasSizes table c.self.inside.outputs.sent) (sym can.table) c.self.invariant.values.sent.sizes

pub add_swap-requires-clause-room : goal.add_swap-requires-clause-room
add_swap-requires-clause-room c =
    let can = still-here (state_in c.self.inside) c.args.self.now c.args.planned c.self.view_is c.requires in
    let fits = can.fits in
    let waiting = count-waiting (history_read c.self.inside.taken.value) (history_read c.self.inside.history) c.self.inside.changes.items c.self.invariant.shows in
    omega (arith, fits, waiting)

pub invariant_of-self : goal.invariant_of-self
invariant_of-self c =
    let can = still-here (state_in c.self.inside) c.args.self.now c.args.planned c.self.view_is c.requires in
    let inside = c.self.inside in
    let history = history_read inside.history in
    let taken = history_read inside.taken.value in
    let edit = c.args.planned.edit in
    let prepared = can.prepared in
    let followed = can-follow (core_parts inside) history taken c.args.planned can c.self.invariant in
    let swap = ap (λ (report : Report). report.swap) c.carry_out-report.ensures.report in
    let epoch : c.carry_out-report.result.epoch ≡ edit.report.epoch = ap (λ (report : Report). report.epoch) c.carry_out-report.ensures.report in
    let raised = subst (λ (n : ℕ). RaisesTasks c.changed_tasks-changed.result n inside.epochs c.raise_epochs.new.epochs) epoch c.raise_epochs.ensures in
    let changes = c.add_swap.ensures ∙ ap (λ (one : Swap). inside.changes.items ++ change.Swapped one ∷ []) swap in
    let grows = c.edited.ensures ∙ ap (λ asked. Edited asked ∷ history) (c.edit.ensures ∙ ap (λ (one : Swap). one.edit) swap) in
    let unchanged : State → Waiting → List Change → CoreParts = λ plan awaited changes. record { plan = plan; serial = inside.serial; awaited = awaited; inputs = c.empty_tasks.new.inputs; ages = c.empty_tasks.new.ages; epochs = c.raise_epochs.new.epochs; outputs = c.change.new.self; owed = c.follow-blocks.new.owed; readiness = c.follow-blocks.new.readiness; changes = changes } in
    subst (λ (after_it : History). Agree (unchanged c.carry_out-report.new.self c.clear.new.self c.add_swap.new.changes.items) after_it taken) (sym grows)
    (subst (λ (plan : State). Agree (unchanged plan c.clear.new.self c.add_swap.new.changes.items) (Edited edit.report.swap.edit ∷ history) taken) (sym c.carry_out-report.ensures.plan)
    (subst (λ (waiting : Waiting). Agree (unchanged edit.new waiting c.add_swap.new.changes.items) (Edited edit.report.swap.edit ∷ history) taken) (sym c.clear.ensures)
    (subst (λ (answer_given : List Change). Agree (unchanged edit.new nothing answer_given) (Edited edit.report.swap.edit ∷ history) taken) (sym changes)
    (agree-carried (core_parts inside) history taken c.args.planned c.changed_tasks-changed.result c.empty_tasks.new.inputs c.empty_tasks.new.ages c.raise_epochs.new.epochs c.change.new.self c.follow-blocks.new.owed c.follow-blocks.new.readiness
    can c.changed_tasks-changed.ensures c.empty_tasks.ensures.slots c.empty_tasks.ensures.ages raised (c.follow-blocks.ensures.known followed) (c.follow-blocks.ensures.ready followed) c.change.ensures c.self.invariant))))

pub returns-clause-answer : goal.returns-clause-answer
returns-clause-answer c =
    let can = still-here (state_in c.self.inside) c.args.self.now c.args.planned c.self.view_is c.requires in
    let edit = c.args.planned.edit in
    let asked = edit.report.swap.edit in
    let prepared = can.prepared in
    c.judged_answer-returned.ensures
    ∙ ap (λ (report : Report). answer.Edited report.epoch report.recut report.moved) c.carry_out-report.ensures.report
    ∙ edited-answer_given edit.old edit.new asked edit.report prepared.accepted prepared.reported
    ∙ ap (λ (state : State). edit_answer state (state_after state asked)) can.made
    ∙ ap (λ (core : CoreState). edit_answer (state_of core.history) (state_after (state_of core.history) asked)) c.self.view_is

pub carry_out-report-requires : goal.carry_out-report-requires
carry_out-report-requires c =
    let can = still-here (state_in c.self.inside) c.args.self.now c.args.planned c.self.view_is c.requires in
    can.made ∙ sym c.self.invariant.state

pub returns-clause-entries : goal.returns-clause-entries
returns-clause-entries c =
    let history = history_read c.self.inside.history in
    let taken = history_read c.self.inside.taken.value in
    let asked = c.args.planned.edit.report.swap.edit in
    let swap = ap (λ (report : Report). report.swap) c.carry_out-report.ensures.report in
    let grows = c.edited.ensures ∙ ap (λ edit. Edited edit ∷ history) (c.edit.ensures ∙ ap (λ (one : Swap). one.edit) swap) in
    ap (λ (grown : History). let after : CoreState = record { history = grown; taken = taken } in after) grows
    ∙ ap (λ (core : CoreState). record core { history = Edited asked ∷ core.history }) c.self.view_is
