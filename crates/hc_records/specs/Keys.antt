-- The order of keys: outputs before inputs, then by rank, then by area.
use Rattle.std.specs.Prelude.{Bool, true, false, ◌||◌, ◌&&◌, ◌==◌, nat_lt}
use Rattle.hc_records.specs.declared.records.Dir.{Dir}
use Rattle.hc_records.specs.declared.records.Dir.TheVariants.{Out, In}
use Rattle.hc_records.specs.declared.keys.Key.{Key}

-- two directions are the same
abbrev pub same_dir : Dir → Dir → Bool
same_dir Out Out = true
same_dir Out In = false
same_dir In Out = false
same_dir In In = true

-- an output, then an input
abbrev pub is_turn : Dir → Dir → Bool
is_turn Out In = true
is_turn Out Out = false
is_turn In Out = false
is_turn In In = false

-- two keys have the same direction, the same rank and the same place in the slave's record
abbrev pub same_key : Key → Key → Bool
same_key a b = same_dir a.dir b.dir && (a.rank == b.rank) && (a.area == b.area)

-- the order of keys: outputs before inputs, then by rank, then by area
abbrev pub is_before : Key → Key → Bool
is_before a b =
    is_turn a.dir b.dir || (same_dir a.dir b.dir && (nat_lt a.rank b.rank || ((a.rank == b.rank) && nat_lt a.area b.area)))

-- before or the same
abbrev pub is_within : Key → Key → Bool
is_within a b = is_before a b || same_key a b
