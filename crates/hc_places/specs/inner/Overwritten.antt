-- Rows that are counted, and overwritten in place.
use Rattle.std.specs.Prelude.{◌==◌, ℕ, ◌-◌, ◌<◌, ◌≤◌, get_or, length, List, [], ◌∷◌, false, if◌then◌else◌, map, nat_lt, true, ◌≡◌, unwrap_or}
use Rattle.std.specs.List.Sorted.{IsPartitionPoint}
use Rattle.hc_places.specs.Swap.{ChangedRow}
use Rattle.hc_places.specs.Table.{VariableRow}

-- the first so many rows have lower numbers than a variable, and no others have
abbrev pub AreBelow : List VariableRow → ℕ → ℕ → Type 0
AreBelow rows variable count = IsPartitionPoint (λ row. nat_lt row.0 variable ≡ true) (λ row. nat_lt row.0 variable ≡ false) rows count

-- the last of the first so many rows, if there is one, has a lower number than a variable
abbrev pub EndsLower : List VariableRow → ℕ → ℕ → Type 0
EndsLower rows variable count = (d : VariableRow) → 0 < count → (get_or rows (count - 1) d).0 < variable

-- the row after the first so many, if there is one, has no lower number than a variable
abbrev pub NextIsNotLower : List VariableRow → ℕ → ℕ → Type 0
NextIsNotLower rows variable count = (d : VariableRow) → count < length rows → variable ≤ (get_or rows count d).0

-- a row with one variable changed: the variable's own has its new place, if any
abbrev pub row_with : ChangedRow → VariableRow → VariableRow
row_with changed row = if row.0 == changed.0 then (row.0, unwrap_or changed.1 row.1) else row

-- rows that are overwritten in place; none is added or removed
abbrev pub rows_overwritten : List ChangedRow → List VariableRow → List VariableRow
rows_overwritten [] rows = rows
rows_overwritten (changed ∷ others) rows = rows_overwritten others (map (row_with changed) rows)
