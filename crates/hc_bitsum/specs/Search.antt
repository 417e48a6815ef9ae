-- The first area of a list that a datagram has no room for.
use Rattle.std.specs.Prelude.{ℕ, ◌≤◌, nat_le, if◌then◌else◌, List, [], ◌∷◌}
use Rattle.hc_records.specs.declared.records.Dir.TheVariants.{In}
use Rattle.hc_records.specs.declared.keys.Key.{Key}
use Rattle.hc_records.specs.declared.keys.TheConstants.Key.{END}
use Rattle.hc_records.specs.TaskList.{Keyed}
use Rattle.hc_bitsum.specs.declared.filled.Filled.{Filled}
use Rattle.hc_bitsum.specs.declared.row.Fit.{Fit}
use Rattle.hc_bitsum.specs.declared.row.Fit.TheVariants.{Found, Through}
use Rattle.hc_bitsum.specs.Filling.{filled_with_area}

-- the key of the first area that would end past the room, or END
abbrev pub first_beyond : ℕ → Filled → List Keyed → Key
first_beyond room filled [] = END
first_beyond room filled (area ∷ areas) =
    if nat_le (filled_with_area filled area).bit room then first_beyond room (filled_with_area filled area) areas else area.0

-- the result of a search of a part of the areas: the key of the first area that would end past the room, or the filling of the
-- datagram if none would
abbrev pub scan : ℕ → Filled → List Keyed → Fit
scan room filled [] = Through filled
scan room filled (area ∷ areas) =
    if nat_le (filled_with_area filled area).bit room then scan room (filled_with_area filled area) areas else Found area.0

-- the key that a search found, or END if it went through all areas
abbrev pub key_or_end : Fit → Key
key_or_end (Found key) = key
key_or_end (Through filled) = END

-- a datagram that a run begins at a bit: nothing before it makes a first input begin a byte
abbrev pub datagram_begun : ℕ → Filled
datagram_begun bit = record { bit = bit; last = In }

-- a search that goes through all areas leaves the datagram within the room
abbrev pub IsInRoom : ℕ → Fit → Type 0
IsInRoom room (Found key) = Unit {0}
IsInRoom room (Through filled) = filled.bit ≤ room
