-- The filling of a datagram by areas, one after another, whatever its room (this project's profile).
use Rattle.std.specs.Prelude.{◌+◌, ◌==◌, if◌then◌else◌, List, [], ◌∷◌, filter}
use Rattle.hc_records.specs.declared.keys.Key.{Key}
use Rattle.hc_records.specs.Keys.{is_before}
use Rattle.hc_records.specs.TaskList.{Keyed}
use Rattle.hc_records.specs.Packing.{Front, beginning}
use Rattle.hc_records.specs.SpanLaws.{areas_from}
use Rattle.hc_bitsum.specs.declared.filled.Filled.{Filled}

-- the datagram that is filled so far, as packing has it
abbrev pub front_of : Filled → Front
front_of filled = record { datagram = 0; bit = filled.bit; last = filled.last }

-- the filling of a datagram with one more area; an area of no bits takes no place
abbrev pub filled_with_area : Filled → Keyed → Filled
filled_with_area filled area =
    if area.1 == 0 then filled else record { bit = beginning (front_of filled) area + area.1; last = area.0.dir }

-- the filling of a datagram with the areas of a list, in their order
abbrev pub filled_with_areas : Filled → List Keyed → Filled
filled_with_areas filled [] = filled
filled_with_areas filled (area ∷ areas) = filled_with_areas (filled_with_area filled area) areas

-- the areas of a list from one key on and before another
abbrev pub areas_between : Key → Key → List Keyed → List Keyed
areas_between from until list = filter (λ area. is_before area.0 until) (areas_from from list)
