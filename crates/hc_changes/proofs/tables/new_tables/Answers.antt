use Rattle.std.proofs.Common.{◌≡◌, ◌∙◌, ◌++◌, [], ◌∷◌, ℕ, List, ap, arith, length-append, sym}
use Rattle.std.specs.Prelude.{map}
use Rattle.std.specs.List.{range_with_len}
use Rattle.std.proofs.lemmas.List.FromFn.{map-range_with_len_more}
use Rattle.hc_records.specs.Line.{line_from}
use Rattle.hc_places.specs.Table.{TaskTable, task_table}
use Rattle.hc_changes.proofs.tables.new_tables.Goals as goal

pub loop-task-preserved : goal.loop-task-preserved
loop-task-preserved c =
    let task = c.loop-task.task in
    let tables = c.loop-task.tables.items in
    let more = length-append tables (c.in_ok-new_table.field-0 ∷ []) in
    let count = c.loop-task.invariant.count in
    record {
      tables = λ before after edited.
          c.in_ok-push.ensures.items
          ∙ ap (λ (front : List TaskTable). front ++ c.in_ok-new_table.field-0 ∷ []) (c.loop-task.invariant.tables before after edited)
          ∙ ap (λ (table : TaskTable). map (task_table (line_from 1 after)) (range_with_len 0 task) ++ table ∷ []) (c.in_ok-new_table.ensures before after edited)
          ∙ sym (map-range_with_len_more (task_table (line_from 1 after)) 0 task task (omega arith));
      count = rw c.in_ok-push.ensures.items (omega arith);
    }

pub returns-clause-tables : goal.returns-clause-tables
returns-clause-tables c before after edited =
    let high = c.loop-task-test.false in
    let last : c.loop-task.task ≡ 8 = omega arith in
    c.loop-task.invariant.tables before after edited
    ∙ ap (λ (n : ℕ). map (task_table (line_from 1 after)) (range_with_len 0 n)) last
