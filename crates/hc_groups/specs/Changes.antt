-- The change that an edit makes of declared groups: a group that is connected or disconnected, or a slave that gets other
-- areas.
use Rattle.std.specs.Prelude.{◌≡◌, ℕ, ◌+◌, ◌==◌, Bool, true, false, List, [], length, position, slice_get, option_and_then, option_map, sum_by, take, Option, None, Some}
use Rattle.std.specs.Option.{option_map_or}
use Rattle.hc_records.specs.declared.records.Area.{Area}
use Rattle.hc_records.specs.declared.records.Slave.{Slave}
use Rattle.hc_records.specs.declared.records.Declared.{Declared}
use Rattle.hc_records.specs.declared.edit.Edit.{Edit}
use Rattle.hc_records.specs.declared.edit.Edit.TheVariants.{Connect, Disconnect, Remap, Move, Declare}
use Rattle.hc_records.specs.Edits.{has_station}
use Rattle.hc_records.specs.Line.{has_address}
use Rattle.hc_records.specs.Lists.{changed_at}
use Rattle.hc_groups.specs.declared.changes.PresenceChange.{PresenceChange}
use Rattle.hc_groups.specs.declared.changes.SlavePlace.{SlavePlace}
use Rattle.hc_groups.specs.declared.changes.AreasChange.{AreasChange}
use Rattle.hc_groups.specs.declared.prepared.Prepared.{Prepared}
use Rattle.hc_groups.specs.declared.prepared.Prepared.TheVariants.{Presence, Areas}

-- the slaves of the group at a place
abbrev pub slaves_at : List Declared → ℕ → List Slave
slaves_at groups group = option_map_or (λ declared. declared.group.slaves) (slice_get groups group) []

-- the rank of the first slave of the group at an index: declared slaves are counted from 1
abbrev pub first_rank : List Declared → ℕ → ℕ
first_rank groups group = 1 + sum_by (λ declared. length declared.group.slaves) (take group groups)

-- the group has the alias
abbrev pub has_alias : ℕ → Declared → Bool
has_alias alias declared = declared.group.alias == alias

-- the group with a number is connected or disconnected
abbrev pub presence_at : List Declared → Bool → ℕ → PresenceChange
presence_at groups present group = record {
  group = group;
  present = present;
  first = first_rank groups group;
  slaves = length (slaves_at groups group);
}

-- the group with an alias is connected or disconnected
abbrev pub presence_change : List Declared → ℕ → Bool → Option PresenceChange
presence_change groups alias present = option_map (presence_at groups present) (position (has_alias alias) groups)

-- a slave of the group has the station address
abbrev pub has_slave : ℕ → Declared → Bool
has_slave station declared = has_station station declared.group.slaves

-- the position of a slave of a group, both by their numbers, among the declared slaves
abbrev pub place_at : List Declared → ℕ → ℕ → SlavePlace
place_at groups group slave = record { group = group; slave = slave; rank = first_rank groups group + slave }

-- the position of the slave with a station address, searched in one group, and then in all of them
abbrev pub station_place : List Declared → ℕ → ℕ → Option SlavePlace
station_place groups station group = option_map (place_at groups group) (position (has_address station) (slaves_at groups group))

-- the position of the slave with a station address among the declared groups; none if no group declares it
abbrev pub slave_place : List Declared → ℕ → Option SlavePlace
slave_place groups station = option_and_then (station_place groups station) (position (has_slave station) groups)

-- the areas of the slave at a position
abbrev pub areas_at : List Declared → SlavePlace → List Area
areas_at groups place = option_map_or (λ slave. slave.areas) (slice_get (slaves_at groups place.group) place.slave) []

-- the slave at a position gets its areas with one of them changed
abbrev pub areas_changed : List Declared → ℕ → (Area → Area) → SlavePlace → AreasChange
areas_changed groups area change place = record { place = place; areas = changed_at area change (areas_at groups place) }

-- the areas of the slave with a station address with one of them changed; none if no group declares the slave
abbrev pub areas_change : List Declared → ℕ → ℕ → (Area → Area) → Option AreasChange
areas_change groups station area change = option_map (areas_changed groups area change) (slave_place groups station)

-- the change of an edit, if it names a declared group or slave; an edit that declares a group has none
abbrev pub change_by : List Declared → Edit → Option Prepared
change_by groups (Connect alias) = option_map Presence (presence_change groups alias true)
change_by groups (Disconnect alias) = option_map Presence (presence_change groups alias false)
change_by groups (Remap station area pdos) = option_map Areas (areas_change groups station area (λ a. record a { assigned = pdos }))
change_by groups (Move station area task) = option_map Areas (areas_change groups station area (λ a. record a { task = task }))
change_by groups (Declare group) = None

-- an edit makes the change of these groups
abbrev pub IsMade : List Declared → Prepared → Type 0
IsMade groups change = (edit : Edit) × (change_by groups edit ≡ Some change)

-- the groups with the presence of one of them set, or with the areas of one slave replaced; unchanged if there is no such group
-- or slave
abbrev pub with_present : Bool → Declared → Declared
with_present present declared = record declared { present = present }

-- the slave with these areas in place of its own
abbrev pub with_areas : List Area → Slave → Slave
with_areas areas slave = record slave { areas = areas }

-- the declared group with these areas for the slave at an index, from 0; unchanged if it has no such slave
abbrev pub with_slave : ℕ → List Area → Declared → Declared
with_slave slave areas declared =
    record declared { group = record declared.group { slaves = changed_at slave (with_areas areas) declared.group.slaves } }

-- the declared groups after a change
abbrev pub changed_groups : Prepared → List Declared → List Declared
changed_groups (Presence change) groups = changed_at change.group (with_present change.present) groups
changed_groups (Areas change) groups = changed_at change.place.group (with_slave change.place.slave change.areas) groups
