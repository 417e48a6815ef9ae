-- The width that a place gives.
use Rattle.std.specs.Prelude.{ℕ, Option}
use Rattle.std.specs.Option.{option_map_or}
use Rattle.hc_records.specs.Packing.{Placed}

-- the bits of an area by its place: an area without a place has none
abbrev pub placed_bits : Option Placed → ℕ
placed_bits place = option_map_or (λ placed. placed.bits) place 0
