-- The places at which a line has a block, by the declared slaves alone: a slave has two blocks for each area.
use Rattle.std.specs.Prelude.{ℕ, ◌/◌, ◌&&◌, nat_lt, Bool, List, length, map}
use Rattle.std.specs.List.{flat_map}
use Rattle.hc_records.specs.declared.records.Declared.{Declared}
use Rattle.hc_records.specs.declared.records.Slave.{Slave}
use Rattle.hc_registers.specs.RankPlaces.{numbers}

-- a slave, present or not, has a block with a number
abbrev pub slave_has_block : Bool → Slave → ℕ → Bool
slave_has_block present slave number = present && nat_lt (number / 2) (length slave.areas)

-- a flag for each place of a slave: it has a block there
abbrev pub slave_flags : Bool → Slave → List Bool
slave_flags present slave = map (slave_has_block present slave) numbers

-- the flags of slaves that are all present or all absent
abbrev pub slaves_flags : Bool → List Slave → List Bool
slaves_flags present slaves = flat_map (slave_flags present) slaves

-- the flags of the slaves of declared groups
abbrev pub declared_flags : List Declared → List Bool
declared_flags groups = flat_map (λ declared. slaves_flags declared.present declared.group.slaves) groups
