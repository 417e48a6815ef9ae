use Rattle.std.proofs.Common.{◌≡◌, ◌≤◌, ◌++◌, length, vec_capacity}
use Rattle.std.specs.Prelude.{map}
use Rattle.std.specs.List.{flat_map}
use Rattle.hc_records.specs.Image.{task_variables, tasks}
use Rattle.hc_records.specs.Line.{line_from}
use Rattle.hc_places.specs.Opened.{AreOpened}
use Rattle.hc_places.specs.Table.{task_table}
use Rattle.hc_places.proofs.Opening.{tasks_from}
use Rattle.hc_places.proofs.configure.opened_places.Given as goal

-- the tasks so far, and those that are left, are all
abbrev pub invariant-loop-task : goal.invariant-loop-task
invariant-loop-task l = record {
  tables : (opened : AreOpened l.slaves l.cuts) → l.tables.items ++ map (task_table (line_from 1 opened.groups)) (tasks_from l.task) ≡ map (task_table (line_from 1 opened.groups)) tasks;
  rows : (opened : AreOpened l.slaves l.cuts) → l.rows.items ++ flat_map (task_variables (line_from 1 opened.groups)) (tasks_from l.task) ≡ flat_map (task_variables (line_from 1 opened.groups)) tasks;
  size : length l.tables.items ≡ l.task;
  room : 8 ≤ vec_capacity l.tables;
}
