-- What an edit does to output values: they move from their places in one table to those in the next.
use Rattle.hc_places.specs.Swap.{Change, swapped}
use Rattle.hc_places.specs.Table.{Table}

-- the moves of output values over a change of a table
pub record Moves : Type 0 where
  pub before : Table
  pub change : Change

-- the table to whose places they lead
abbrev pub moved_table : Moves → Table
moved_table moves = swapped moves.change moves.before
