-- The place of one area of a task.
use Rattle.std.specs.Prelude.{Bool, List, find, Option}
use Rattle.hc_records.specs.declared.keys.Key.{Key}
use Rattle.hc_records.specs.Keys.{same_key}
use Rattle.hc_records.specs.TaskList.{Keyed}
use Rattle.hc_records.specs.Packing.{Placed, empty_front, packed}

-- a placed area is the one with this key
abbrev pub has_key : Key → Placed → Bool
has_key key placed = same_key placed.key key

-- the place of the area with a key, in the layout of the task, whose areas are packed one after another; none if the task has
-- no such area
abbrev pub place_of : Key → List Keyed → Option Placed
place_of key list = find (has_key key) (packed empty_front list)
