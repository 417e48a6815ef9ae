-- The change from the table of one epoch to that of the next.
use Rattle.std.specs.Prelude.{ℕ, ◌==◌, ◌&&◌, not, nat_lt, Bool, true, false, if◌then◌else◌, List, [], ◌∷◌, ◌++◌, All, AllPairs, IsTrue, ◌<◌, ◌≤◌, ◌≡◌, ◌≢◌, ◌↔◌, filter, length, map, set, slice_get, Option, Some, None, is_some, option_map, unwrap_or, find}
use Rattle.std.specs.Option.{option_map_or}
use Rattle.std.specs.List.{list_any}
use Rattle.hc_records.specs.declared.edit.Edit.{Edit}
use Rattle.hc_records.specs.Keys.{same_dir}
use Rattle.hc_records.specs.Image.{VariablePlace}
use Rattle.hc_places.specs.Table.{IsTable, VariableRow, RowsAscend, Table, TaskTable, place_in}

-- a variable that is elsewhere, appears or goes: its number, and its new place or none
abbrev pub ChangedRow : Type 0
ChangedRow = ℕ × Option VariablePlace

-- a task whose table differs: its number, and its table from now on
abbrev pub ChangedTask : Type 0
ChangedTask = ℕ × TaskTable

-- the tasks that differ, and the variables that change
pub record Change : Type 0 where
  pub tasks : List ChangedTask
  pub rows : List ChangedRow

-- changed tasks or variables are in the order of their numbers, each once
abbrev pub ChangesAscend : {X : Type 0} → List (ℕ × X) → Type 0
ChangesAscend changed = AllPairs (λ a b. a.0 < b.0) changed

-- the tasks of a change are in order, and so are its variables
pub record IsInOrder (change : Change) : Type 0 where
  pub tasks : ChangesAscend change.tasks
  pub rows : ChangesAscend change.rows

-- a swap: the edit that asks for it, and its change of the table
pub record Swap : Type 0 where
  pub edit : Edit
  pub change : Change

-- the row that a changed variable has from now on, if any
abbrev pub new_row : ChangedRow → List VariableRow
new_row changed = option_map_or (λ place. (changed.0, place) ∷ []) changed.1 []

-- rows with one variable changed: rows of lower numbers stay before its new row, and its old row goes
abbrev pub with_changed : ChangedRow → List VariableRow → List VariableRow
with_changed changed [] = new_row changed
with_changed changed (row ∷ rows) =
    if nat_lt row.0 changed.0 then row ∷ with_changed changed rows
    else new_row changed ++ (if row.0 == changed.0 then rows else row ∷ rows)

-- rows with each of these variables changed
abbrev pub merged : List ChangedRow → List VariableRow → List VariableRow
merged [] rows = rows
merged (changed ∷ others) rows = with_changed changed (merged others rows)

-- a changed variable keeps its row: it has one, and a new place
abbrev pub keeps_row : List VariableRow → ChangedRow → Bool
keeps_row rows changed = is_some (find (λ row. row.0 == changed.0) rows) && is_some changed.1

-- each changed variable keeps its row: none appears or goes
abbrev pub KeepRows : List VariableRow → List ChangedRow → Type 0
KeepRows rows changed = All (λ change. IsTrue (keeps_row rows change)) changed

-- tasks with some of them changed; none comes or goes
abbrev pub tasks_replaced : List ChangedTask → List TaskTable → List TaskTable
tasks_replaced [] tasks = tasks
tasks_replaced (changed ∷ others) tasks = tasks_replaced others (set tasks changed.0 changed.1)

-- the table that a change leads to
abbrev pub swapped : Change → Table → Table
swapped change table = record { tasks = tasks_replaced change.tasks table.tasks; variables = merged change.rows table.variables }

-- two places are the same
abbrev pub same_place : VariablePlace → VariablePlace → Bool
same_place a b =
    (a.task == b.task) && (a.datagram == b.datagram) && (a.bit == b.bit) && (a.bits == b.bits) && same_dir a.dir b.dir

-- two places, each of which may be missing, are the same
abbrev pub same_found : Option VariablePlace → Option VariablePlace → Bool
same_found None None = true
same_found None (Some b) = false
same_found (Some a) None = false
same_found (Some a) (Some b) = same_place a b

-- a variable is in a table
abbrev pub is_placed_in : Table → ℕ → Bool
is_placed_in table variable = option_map_or (λ place. true) (place_in table variable) false

-- the numbers of a table's rows
abbrev pub numbers_of : Table → List ℕ
numbers_of table = map (λ row. row.0) table.variables

-- the variables of either table
abbrev pub variables_of_both : Table → Table → List ℕ
variables_of_both old new = numbers_of old ++ filter (λ variable. not (is_placed_in old variable)) (numbers_of new)

-- the variables whose place differs, one that appears or goes included
abbrev pub changed_variables : Table → Table → List ℕ
changed_variables old new =
    filter (λ variable. not (same_found (place_in old variable) (place_in new variable))) (variables_of_both old new)

-- the entry of a list for a number, if the list names the number
abbrev pub said_of : {X : Type 0} → List (ℕ × X) → ℕ → Option X
said_of list number = option_map (λ entry. entry.1) (find (λ entry. entry.0 == number) list)

-- the new table that a change names for a task: none if the old and new tables are equal, else the new one
abbrev pub IsDifference : Option TaskTable → Option TaskTable → Option TaskTable → Type 0
IsDifference old new None = old ≡ new
IsDifference old new (Some said) = (new ≡ Some said) × (old ≢ new)

-- the tasks whose old and new tables differ, each with its new table
abbrev pub AreDifferences : List TaskTable → List TaskTable → List ChangedTask → Type 0
AreDifferences old new changed = (task : ℕ) → IsDifference (slice_get old task) (slice_get new task) (said_of changed task)

-- a change names each task whose table differs with its new table, each variable whose place differs with its new place or none, and no other
pub record SaysWhatDiffers (old new : Table) (change : Change) : Type 0 where
  pub tasks : AreDifferences old.tasks new.tasks change.tasks
  pub places : (variable : ℕ) → said_of change.rows variable ≡ (if same_found (place_in old variable) (place_in new variable) then None else Some (place_in new variable))

-- no variable has two rows
abbrev pub AreOnce : List ChangedRow → Type 0
AreOnce rows = (variable : ℕ) → length (filter (λ changed. changed.0 == variable) rows) ≤ 1

-- the number of variables that a swap changes
abbrev pub changed_places : Swap → ℕ
changed_places swap = length swap.change.rows

-- a swap leads from one table to another, and carries the differences and nothing else
pub record Leads (old new : Table) (swap : Swap) : Type 0 where
  pub leads : swapped swap.change old ≡ new
  pub says : SaysWhatDiffers old new swap.change
  pub count : changed_places swap ≡ length (changed_variables old new)

-- a swap leads from any table to any other, if the change states the differences between them
abbrev pub LeadsAsSaid : Change → Swap → Type 0
LeadsAsSaid said swap = (old new : Table) → IsTable old → IsTable new → SaysWhatDiffers old new said → Leads old new swap

-- a variable is among the changed ones of two tables exactly if its place differs
abbrev pub ChangedVariablesDiffer : Type 0
ChangedVariablesDiffer =
    (old new : Table) (variable : ℕ)
    → (list_any (λ changed. changed == variable) (changed_variables old new) ≡ true) ↔ (place_in old variable ≢ place_in new variable)

-- each changed variable of two tables is among them once
abbrev pub ChangedVariablesOccurOnce : Type 0
ChangedVariablesOccurOnce =
    (old new : Table) → RowsAscend old.variables → RowsAscend new.variables → AllPairs (λ a b. a ≢ b) (changed_variables old new)

-- in the table that a change leads to, a variable has the place that the change says, and the one that it had if the change
-- says nothing
abbrev pub SwapsMoveTheirVariables : Type 0
SwapsMoveTheirVariables =
    (change : Change) (table : Table) → RowsAscend table.variables → (variable : ℕ)
    → place_in (swapped change table) variable ≡ unwrap_or (said_of change.rows variable) (place_in table variable)

-- the rows of the table that a change leads to ascend, if those of the table before do
abbrev pub SwapsKeepTheOrder : Type 0
SwapsKeepTheOrder = (change : Change) (table : Table) → RowsAscend table.variables → RowsAscend (swapped change table).variables

-- in the table that a change leads to, a task has the table that the change says, and the one that it had if the change says
-- nothing
abbrev pub SwapsReplaceTheirTasks : Type 0
SwapsReplaceTheirTasks =
    (change : Change) (table : Table) → ChangesAscend change.tasks → (task : ℕ)
    → slice_get (swapped change table).tasks task ≡ option_map (λ old. unwrap_or (said_of change.tasks task) old) (slice_get table.tasks task)

-- tables whose rows ascend are distinguished by their tasks and by what they answer for variables
abbrev pub PlacesSayTables : Type 0
PlacesSayTables =
    (a b : Table) → RowsAscend a.variables → RowsAscend b.variables → a.tasks ≡ b.tasks → ((variable : ℕ) → place_in a variable ≡ place_in b variable) → a ≡ b
