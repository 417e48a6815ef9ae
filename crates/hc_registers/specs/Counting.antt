-- The working counter of a register write, and of a datagram by its areas, in the order of their keys.
use Rattle.std.specs.Prelude.{ℕ, ◌+◌, ◌==◌, ◌&&◌, if◌then◌else◌, List, [], ◌∷◌, Option, Some, None}
use Rattle.hc_records.specs.declared.records.Dir.{Dir}
use Rattle.hc_records.specs.declared.records.Dir.TheVariants.{Out, In}
use Rattle.hc_records.specs.declared.keys.Key.{Key}
use Rattle.hc_records.specs.Keys.{same_dir}

-- the number that an area of a direction adds to the working counter: 2 for outputs, 1 for inputs
abbrev pub weight : Dir → ℕ
weight Out = 2
weight In = 1

-- the number that the area with a key adds to the counter of its datagram, after the area before it: 0 if both are of one slave
-- and direction
abbrev pub added_share : Option Key → Key → ℕ
added_share None key = weight key.dir
added_share (Some before) key =
    if (before.rank == key.rank) && same_dir before.dir key.dir then 0 else weight key.dir

-- the number that the areas of these keys add, in their order
abbrev pub counted_from : Option Key → List Key → ℕ
counted_from before [] = 0
counted_from before (key ∷ keys) = added_share before key + counted_from (Some key) keys
