-- The memory that carrying a swap out takes.
use Rattle.std.specs.Prelude.{ℕ, ◌≤◌, Option, None, Some, length}
use Rattle.hc_places.specs.Swap.{Change, KeepRows, swapped}
use Rattle.hc_places.specs.Table.{Table}

-- the memory for a change: none if no variable appears or goes; otherwise memory for as many rows as the table will have, or
-- more
abbrev pub IsRowRoomFor : Change → Table → Option ℕ → Type 0
IsRowRoomFor change table None = KeepRows table.variables change.rows
IsRowRoomFor change table (Some rows) = length (swapped change table).variables ≤ rows
