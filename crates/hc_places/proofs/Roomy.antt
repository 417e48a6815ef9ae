-- Rows that are merged into memory of their number find room; tasks that are replaced are as many.
use Rattle.std.proofs.Common.{◌≡◌, ◌∙◌, ℕ, suc, ◌+◌, ◌<◌, ◌≤◌, Bool, cond, List, [], ◌∷◌, ◌++◌, length, length-append, length-set, refl, arith}
use Rattle.std.specs.Prelude.{Option, Some, nat_lt, option_to_list, set, ◌==◌}
use Rattle.hc_records.specs.Image.{VariablePlace}
use Rattle.hc_places.specs.Table.{VariableRow, TaskTable}
use Rattle.hc_places.specs.Swap.{ChangedRow, ChangedTask, merged, new_row, tasks_replaced, with_changed}

-- a row that is still to come has room
pub room-left : (rows rest all more : List VariableRow) (found : Option VariableRow) (row : VariableRow) (room : ℕ) → found ≡ Some row → option_to_list found ++ more ≡ rest → rows ++ rest ≡ all → length all ≤ room
    → length rows < room
room-left rows rest all more found row room is next whole few = grind (arith, length-append)

-- a changed variable adds at most one row

new-few : (number : ℕ) (place : Option VariablePlace) → length (new_row (number, place)) ≤ 1
new-few number place = grind arith

with-few-by : (below same : Bool) (changed : ChangedRow) (row : VariableRow) (rows rest : List VariableRow) → length rest ≤ length rows + 1
    → length (cond below (row ∷ rest) (new_row changed ++ cond same rows (row ∷ rows))) ≤ suc (length rows) + 1
with-few-by below same changed row rows rest few = grind arith

with-few : (changed : ChangedRow) (rows : List VariableRow) → length (with_changed changed rows) ≤ length rows + 1
with-few changed [] = let own = new-few changed.0 changed.1 in omega (arith, own)
with-few changed (row ∷ rows) = with-few-by (nat_lt row.0 changed.0) (row.0 == changed.0) changed row rows (with_changed changed rows) (with-few changed rows)

pub merged-few : (others : List ChangedRow) (rows : List VariableRow) → length (merged others rows) ≤ length rows + length others
merged-few [] rows = omega arith
merged-few (changed ∷ others) rows = grind (arith, with-few, merged-few others rows)

-- no task comes or goes
pub replaced-length : (changed : List ChangedTask) (tasks : List TaskTable) → length (tasks_replaced changed tasks) ≡ length tasks
replaced-length [] tasks = refl
replaced-length (c ∷ others) tasks = replaced-length others (set tasks c.0 c.1) ∙ length-set tasks c.0 c.1
