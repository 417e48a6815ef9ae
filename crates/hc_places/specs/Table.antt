-- The table of a line: the datagrams and the parts of its tasks, and the places of its variables.
use Rattle.std.specs.Prelude.{◌≡◌, ℕ, ◌<◌, ◌==◌, ◌&&◌, Bool, nat_lt, if◌then◌else◌, List, [], ◌∷◌, AllPairs, length, map, find, slice_get, option_and_then, option_map, Option}
use Rattle.std.specs.Option.{option_map_or}
use Rattle.std.specs.List.{flat_map, range_with_len}
use Rattle.hc_records.specs.declared.limits.TheConstants.{TASKS}
use Rattle.hc_records.specs.Line.{Member}
use Rattle.hc_records.specs.Image.{VariablePlace, task_places, datagram_count, datagram_length, datagram_offset, expected_counter, input_length, logical_address, output_length, task_variables, tasks, variable_place}
use Rattle.hc_places.specs.declared.table.Datagram.{Datagram}

-- a datagram of a task: its logical address, its length in bytes, its expected working counter, and its offset in the task's image
abbrev pub datagram_of : List Member → ℕ → ℕ → Datagram
datagram_of line task d = record {
  address = logical_address task d;
  length = datagram_length (task_places task line) d;
  expected = expected_counter task d line;
  offset = datagram_offset (task_places task line) d;
}

-- a task: its datagrams, and the bytes of its outputs and of its inputs
pub record TaskTable : Type 0 where
  pub datagrams : List Datagram
  pub outputs : ℕ
  pub inputs : ℕ

-- the table of a task of a line: its datagrams in order, and the bytes of its outputs and of its inputs
abbrev pub task_table : List Member → ℕ → TaskTable
task_table line task = record {
  datagrams = map (datagram_of line task) (range_with_len 0 (datagram_count (task_places task line)));
  outputs = output_length (task_places task line);
  inputs = input_length (task_places task line);
}

-- a variable's number and its place
abbrev pub VariableRow : Type 0
VariableRow = ℕ × VariablePlace

-- rows in the order of their numbers; of two with one number the earlier stays before the other
abbrev pub row_put : VariableRow → List VariableRow → List VariableRow
row_put row [] = row ∷ []
row_put row (other ∷ others) = if nat_lt other.0 row.0 then other ∷ row_put row others else row ∷ other ∷ others

-- all of some rows in the order of their numbers
abbrev pub by_number : List VariableRow → List VariableRow
by_number [] = []
by_number (row ∷ rows) = row_put row (by_number rows)

-- each variable once, in the order of their numbers
abbrev pub RowsAscend : List VariableRow → Type 0
RowsAscend rows = AllPairs (λ a b. a.0 < b.0) rows

-- the eight tasks, and the variables in the order of their numbers
pub record Table : Type 0 where
  pub tasks : List TaskTable
  pub variables : List VariableRow

-- the invariant of a table
pub record IsTable (table : Table) : Type 0 where
  pub eight : length table.tasks ≡ TASKS
  pub ascends : RowsAscend table.variables

-- the table of a line: its eight tasks, and the place of each of its variables
abbrev pub table_of : List Member → Table
table_of line = record {
  tasks = map (task_table line) tasks;
  variables = by_number (flat_map (task_variables line) tasks);
}

-- the look-ups of a table

-- the place of a variable; none if it has no row
abbrev pub place_in : Table → ℕ → Option VariablePlace
place_in table variable = option_map (λ row. row.1) (find (λ row. row.0 == variable) table.variables)

-- the datagram of a task with a number, from 0; none after the last one
abbrev pub datagram_in : Table → ℕ → ℕ → Option Datagram
datagram_in table task d = option_and_then (λ found. slice_get found.datagrams d) (slice_get table.tasks task)

-- the datagrams of a task, in the order of their numbers
abbrev pub datagrams_in : Table → ℕ → List Datagram
datagrams_in table task = option_map_or (λ found. found.datagrams) (slice_get table.tasks task) []

-- a place lies in a datagram of a task
abbrev pub is_placed_in_datagram : ℕ → ℕ → VariablePlace → Bool
is_placed_in_datagram task d place = (place.task == task) && (place.datagram == d)

-- the bytes of the outputs, and of the inputs, of a task's image
abbrev pub part_in : Table → ℕ → ℕ × ℕ
part_in table task = option_map_or (λ found. (found.outputs, found.inputs)) (slice_get table.tasks task) (0, 0)

-- in the table of a line each variable has its place in the line
abbrev pub TablesHavePlaces : Type 0
TablesHavePlaces = (line : List Member) (variable : ℕ) → place_in (table_of line) variable ≡ variable_place variable line
