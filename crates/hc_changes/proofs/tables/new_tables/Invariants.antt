use Rattle.std.proofs.Common.{◌≡◌, List, length}
use Rattle.std.specs.Prelude.{map}
use Rattle.std.specs.List.{range_with_len}
use Rattle.hc_records.specs.declared.records.Declared.{Declared}
use Rattle.hc_records.specs.Line.{line_from}
use Rattle.hc_places.specs.Table.{task_table}
use Rattle.hc_changes.specs.Tables.{TableIsEdited}
use Rattle.hc_changes.proofs.tables.new_tables.Given as goal

-- the tables so far
abbrev pub invariant-loop-task : goal.invariant-loop-task
invariant-loop-task l = record {
  tables : (before after : List Declared) → TableIsEdited before after l.old l.before l.cuts → l.tables.items ≡ map (task_table (line_from 1 after)) (range_with_len 0 l.task);
  count : length l.tables.items ≡ l.task;
}
