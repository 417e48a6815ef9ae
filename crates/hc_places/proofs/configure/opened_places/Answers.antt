use Rattle.std.proofs.Common.{◌∙◌, ◌∷◌, ◌++◌, ◌+◌, ℕ, [], List, ap, arith, length, length-append}
use Rattle.std.specs.List.{flat_map}
use Rattle.std.proofs.lemmas.Result.{IfOk-weaker}
use Rattle.hc_records.specs.Image.{task_variables}
use Rattle.hc_records.specs.Line.{line_from}
use Rattle.hc_places.specs.Found.{found_variables}
use Rattle.hc_places.specs.DatagramUses.{table_at}
use Rattle.hc_places.specs.Table.{VariableRow, TaskTable, task_table}
use Rattle.hc_places.proofs.Opening.{flat_map-last, flat_map-next, map-last, map-next, opened-task, table-made}
use Rattle.hc_places.proofs.lemmas.Ascends.{table-ascends}
use Rattle.hc_places.proofs.configure.opened_places.Goals as goal

pub task_table-requires : goal.task_table-requires
task_table-requires c =
    rw c.as_slice.ensures.value (opened-task c.args.slaves.now c.args.cuts.now c.requires c.loop-task.task c.in_ok-places.places.items c.loop-task-test.true c.in_ok-places.ensures).sendable

pub push_reserved-requires : goal.push_reserved-requires
push_reserved-requires c = omega (arith, c.loop-task-test.true, c.loop-task.invariant.size, c.loop-task.invariant.room)

pub add_found-requires-clause-sendable : goal.add_found-requires-clause-sendable
add_found-requires-clause-sendable c =
    rw c.as_slice-in-loop-task.ensures.value (opened-task c.args.slaves.now c.args.cuts.now c.requires c.loop-task.task c.in_ok-places.places.items c.loop-task-test.true c.in_ok-places.ensures).sendable

pub add_found-requires-clause-suit : goal.add_found-requires-clause-suit
add_found-requires-clause-suit c =
    let task = opened-task c.args.slaves.now c.args.cuts.now c.requires c.loop-task.task c.in_ok-places.places.items c.loop-task-test.true c.in_ok-places.ensures in
    rw (c.as_slice-in-loop-task.ensures.value, c.requires.areas) task.suit

pub loop-task-preserved : goal.loop-task-preserved
loop-task-preserved c =
    let line = line_from 1 in
    let number = c.loop-task.task in
    let low = c.loop-task-test.true in
    let slaves = c.args.slaves.now in
    let tables = c.loop-task.tables.items in
    let rows = c.loop-task.rows.items in
    let longer = length-append tables (c.task_table.result ∷ []) in
    record {
      tables = λ opened.
          let task = opened-task slaves c.args.cuts.now opened number c.in_ok-places.places.items low c.in_ok-places.ensures in
          let table = c.task_table.ensures ∙ ap (table_at number) c.as_slice.ensures.value ∙ task.table in
          map-next (task_table (line opened.groups)) number tables _ _ low
          (c.push_reserved.ensures.items ∙ ap (λ (t : TaskTable). tables ++ t ∷ []) table) (c.loop-task.invariant.tables opened);
      rows = λ opened.
          let task = opened-task slaves c.args.cuts.now opened number c.in_ok-places.places.items low c.in_ok-places.ensures in
          let found = ap (λ s. flat_map (found_variables number s) c.as_slice-in-loop-task.result.now) opened.areas
          ∙ ap (flat_map (found_variables number _)) c.as_slice-in-loop-task.ensures.value ∙ task.rows in
          flat_map-next (task_variables (line opened.groups)) number rows _ _ low
          (c.in_ok-add_found.ensures ∙ ap (λ (r : List VariableRow). rows ++ r) found) (c.loop-task.invariant.rows opened);
      size = ap length c.push_reserved.ensures.items ∙ longer ∙ ap (λ (n : ℕ). n + 1) c.loop-task.invariant.size;
      room = let room = c.loop-task.invariant.room in omega (arith, room, c.push_reserved.ensures.capacity);
    }

pub of-requires-clause-eight : goal.of-requires-clause-eight
of-requires-clause-eight c = omega (arith, c.loop-task-test.false, c.loop-task.auto.task-end, c.loop-task.invariant.size)

pub of-requires-clause-ascends : goal.of-requires-clause-ascends
of-requires-clause-ascends c =
    let groups = c.requires.groups in
    let rows = flat_map-last (task_variables (line_from 1 groups)) c.loop-task.task _ _ c.loop-task-test.false (c.loop-task.invariant.rows c.requires) in
    rw rows (table-ascends groups c.requires.project)

pub returns : goal.returns
returns c opened =
    let line = line_from 1 opened.groups in
    let tables = map-last (task_table line) c.loop-task.task _ _ c.loop-task-test.false (c.loop-task.invariant.tables opened) in
    let rows = flat_map-last (task_variables line) c.loop-task.task _ _ c.loop-task-test.false (c.loop-task.invariant.rows opened) in
    IfOk-weaker c.of.result _ _ (λ places is. is ∙ table-made line c.loop-task.tables.items c.loop-task.rows.items tables rows) c.of.ensures
