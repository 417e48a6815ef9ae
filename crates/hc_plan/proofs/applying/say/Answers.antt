use Rattle.std.proofs.Common.{◌∙◌}
use Rattle.hc_plan.proofs.Saying.{answer_given-leads, answer_given-once, answer_given-rows, candidates-are_placed, tasks-differ}
use Rattle.hc_plan.proofs.applying.say.Goals as goal

pub changed_rows-requires : goal.changed_rows-requires
changed_rows-requires c = record {
  inside = candidates-are_placed c.args.edited_line.now c.in_ok-candidates.candidates.items c.as_slice-found.result.now c.requires.edit.is c.requires.accepted c.in_ok-candidates.ensures c.as_slice-found.ensures.value;
}

pub of-requires-clause-once : goal.of-requires-clause-once
of-requires-clause-once c =
    let it = c.args.edited_line.now in
    let rows = c.in_ok-rows.rows.items in
    let tasks = c.in_ok-tasks.tasks.items in
    answer_given-once it tasks rows c.requires.edit.is
    (tasks-differ it c.args.places.now c.args.known.now c.args.cuts.now tasks c.requires.edit.is c.requires.edit.of_old c.requires.known c.requires.trees c.in_ok-tasks.ensures.says)
    (answer_given-rows it c.args.places.now c.in_ok-candidates.candidates.items c.as_slice-found.result.now c.change.result.now rows c.requires.edit.of_old
    c.in_ok-candidates.ensures c.as_slice-found.ensures.value c.change.ensures c.in_ok-rows.ensures)

pub returns-clause-leads : goal.returns-clause-leads
returns-clause-leads c =
    let it = c.args.edited_line.now in
    let rows = c.in_ok-rows.rows.items in
    let tasks = c.in_ok-tasks.tasks.items in
    answer_given-leads it tasks rows c.in_ok-swap.swap c.requires.edit.is
    (tasks-differ it c.args.places.now c.args.known.now c.args.cuts.now tasks c.requires.edit.is c.requires.edit.of_old c.requires.known c.requires.trees c.in_ok-tasks.ensures.says)
    (answer_given-rows it c.args.places.now c.in_ok-candidates.candidates.items c.as_slice-found.result.now c.change.result.now rows c.requires.edit.of_old
    c.in_ok-candidates.ensures c.as_slice-found.ensures.value c.change.ensures c.in_ok-rows.ensures)
    c.in_ok-swap.ensures.leads

-- that trees are those of a line is handed on as it was reported: a tactic would open the eight
-- tasks

pub maybe_moved_areas-requires-clause-cuts : goal.maybe_moved_areas-requires-clause-cuts
maybe_moved_areas-requires-clause-cuts c = c.requires.trees

pub maybe_moved_areas-requires-clause-before : goal.maybe_moved_areas-requires-clause-before
maybe_moved_areas-requires-clause-before c = c.requires.known

pub moved_blocks-requires-clause-candidates : goal.moved_blocks-requires-clause-candidates
moved_blocks-requires-clause-candidates c = c.as_slice-found.ensures.value ∙ c.in_ok-candidates.ensures

pub changed_tasks-requires : goal.changed_tasks-requires
changed_tasks-requires c = record { groups = c.args.edited_line.now.new; line = record { project = c.requires.edit.is.is_project; of_groups = c.requires.trees } }
