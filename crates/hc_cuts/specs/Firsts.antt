-- The keys at which the datagrams of a task's list begin.
use Rattle.std.specs.Prelude.{◌<◌, List, [], ◌∷◌}
use Rattle.hc_records.specs.declared.limits.TheConstants.{MOST_DATAGRAMS}
use Rattle.hc_records.specs.declared.keys.Key.{Key}
use Rattle.hc_records.specs.TaskList.{Keyed}
use Rattle.hc_records.specs.Packing.{empty_front, packed}
use Rattle.hc_records.specs.Image.{datagram_count}
use Rattle.hc_records.specs.Boundaries.{later_keys}

-- the key of the first area, and the boundaries inside the list; none of an empty list
abbrev pub first_keys : List Keyed → List Key
first_keys [] = []
first_keys (area ∷ areas) = area.0 ∷ later_keys (area ∷ areas)

-- packing the list gives more than 16 datagrams
abbrev pub IsOverLimit : List Keyed → Type 0
IsOverLimit list = MOST_DATAGRAMS < datagram_count (packed empty_front list)
