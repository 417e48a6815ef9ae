-- Repeated names, overlapping areas, and assigned PDOs that cannot be, among the groups that were read, in the order of the
-- text.
use Rattle.std.specs.Prelude.{ℕ, ◌+◌, ◌==◌, ◌&&◌, not, nat_lt, Bool, if◌then◌else◌, List, [], ◌∷◌, ◌++◌, find, option_map, take, Option, Some, None}
use Rattle.hc_records.specs.declared.limits.TheConstants.{MOST_AREA_BITS}
use Rattle.hc_records.specs.declared.records.Pdo.{Pdo}
use Rattle.hc_records.specs.declared.records.Area.{Area}
use Rattle.hc_records.specs.declared.records.Slave.{Slave}
use Rattle.hc_records.specs.declared.records.Group.{Group}
use Rattle.hc_records.specs.Area.{Entry, offers, width}
use Rattle.hc_records.specs.Project.{reach}
use Rattle.hc_project.specs.declared.repeats.Extent.{Extent}
use Rattle.hc_project.specs.declared.places.Key.TheVariants as key
use Rattle.hc_project.specs.declared.places.Place.{Place}
use Rattle.hc_project.specs.declared.places.Location.{Location}
use Rattle.hc_project.specs.Places.{document, first_from, first_some, in_area, in_group, in_pdo, in_slave, pair, place_alone, with_key}

-- the place of a group; the mandatory one has number 0
abbrev pub group_at : ℕ → Group → Place
group_at index group = in_group document index group.alias

-- the place of a slave of a group
abbrev pub group_slave_place : Place → ℕ → Slave → Place
group_slave_place place index slave = in_slave place index slave.station

-- the results of the items of a list, in order, each by its index
abbrev pub each_at : {X Y : Type 0} → (ℕ → X → List Y) → ℕ → List X → List Y
each_at gives index [] = []
each_at gives index (x ∷ xs) = gives index x ++ each_at gives (index + 1) xs

-- the places of a member and of the earliest one before it that is related to it
abbrev pub related_at : {X : Type 0} → (X → X → Bool) → List (Place × X) → ℕ → Place × X → Option Location
related_at related list index x =
    option_map (λ earlier. pair earlier.0 x.0) (find (λ earlier. related earlier.1 x.1) (take index list))

-- the first member to which an earlier one is related
abbrev pub first_related : {X : Type 0} → (X → X → Bool) → List (Place × X) → Option Location
first_related related list = first_from (related_at related list) 0 list

-- the first number that was before
abbrev pub first_repeat : List (Place × ℕ) → Option Location
first_repeat list = first_related (λ earlier later. later == earlier) list

-- the numbers of a project with their places; here the alias of a group
abbrev pub alias_at : Place → ℕ → Group → List (Place × ℕ)
alias_at place index group = (with_key (group_at index group) key.Alias, group.alias) ∷ []

-- the station address of a slave
abbrev pub slave_station : Place → ℕ → Slave → List (Place × ℕ)
slave_station place index slave = (with_key (group_slave_place place index slave) key.Station, slave.station) ∷ []

-- the station addresses of a group's slaves
abbrev pub stations_at : Place → ℕ → Group → List (Place × ℕ)
stations_at place index group = each_at (slave_station (group_at index group)) 0 group.slaves

-- a variable at its place; none for a gap
abbrev pub variable_at : Place → Option ℕ → List (Place × ℕ)
variable_at place None = []
variable_at place (Some variable) = (place, variable) ∷ []

-- the variable of an entry
abbrev pub entry_variable : Place → ℕ → Entry → List (Place × ℕ)
entry_variable place index entry = variable_at (with_key place (key.Variable index)) entry.0

-- the variables of a PDO's entries
abbrev pub pdo_variables : Place → ℕ → Pdo → List (Place × ℕ)
pdo_variables place index pdo = each_at (entry_variable (in_pdo place index)) 0 pdo.entries

-- the variables of the PDOs that an area offers, assigned or not
abbrev pub offered_variables : Place → ℕ → Area → List (Place × ℕ)
offered_variables place index area = each_at (pdo_variables (in_area place index)) 0 area.offered

-- the variables of a slave's areas
abbrev pub slave_variables : Place → ℕ → Slave → List (Place × ℕ)
slave_variables place index slave = each_at (offered_variables (group_slave_place place index slave)) 0 slave.areas

-- the variables of a group's slaves
abbrev pub group_variables : Place → ℕ → Group → List (Place × ℕ)
group_variables place index group = each_at (slave_variables (group_at index group)) 0 group.slaves

-- the sync manager of an area
abbrev pub manager_at : Place → ℕ → Area → List (Place × ℕ)
manager_at place index area = (with_key (in_area place index) key.Sm, area.sm) ∷ []

-- the index of a PDO that an area offers
abbrev pub offered_at : Place → ℕ → Pdo → List (Place × ℕ)
offered_at place index pdo = (with_key (in_pdo place index) key.Index, pdo.index) ∷ []

-- the memory that an area may take: its first byte, and the number of bytes
abbrev pub extent : Area → Extent
extent area = record { start = area.phys; bytes = reach area }

-- an area's memory at the area's place
abbrev pub extent_at : Place → ℕ → Area → List (Place × Extent)
extent_at place index area = (in_area place index, extent area) ∷ []

-- two runs of memory have a byte in common; an empty run has none
abbrev pub extents_meet : Extent → Extent → Bool
extents_meet a b =
    nat_lt 0 a.bytes && nat_lt 0 b.bytes && nat_lt a.start (b.start + b.bytes) && nat_lt b.start (a.start + a.bytes)

-- two areas of a slave at one sync manager
abbrev pub managers_repeated : Place → ℕ → Slave → Option Location
managers_repeated place index slave = first_repeat (each_at (manager_at (group_slave_place place index slave)) 0 slave.areas)

-- two areas of a slave that overlap
abbrev pub areas_overlapping : Place → ℕ → Slave → Option Location
areas_overlapping place index slave = first_related extents_meet (each_at (extent_at (group_slave_place place index slave)) 0 slave.areas)

-- the index of a number's first occurrence
abbrev pub index_of : ℕ → List ℕ → Option ℕ
index_of number list = first_from (λ index other. if number == other then Some index else None) 0 list

-- an assigned index that is not offered, or occurred before
abbrev pub assigned_unknown : Area → Place → ℕ → ℕ → Option Location
assigned_unknown area place index number =
    if not (offers area number)
    then Some (place_alone (with_key place (key.AssignedAt index)))
    else option_map (λ earlier. pair (with_key place (key.AssignedAt earlier)) (with_key place (key.AssignedAt index)))
    (index_of number (take index area.assigned))

-- the first such index of an area, else the first PDO whose index an earlier one has
abbrev pub area_unknown : Place → ℕ → Area → Option Location
area_unknown place index area =
    let here = in_area place index in
    first_some (first_from (assigned_unknown area here) 0 area.assigned) (first_repeat (each_at (offered_at here) 0 area.offered))

-- an assigned index that brings the area over a datagram's bits
abbrev pub assigned_wide : Area → Place → ℕ → ℕ → Option Location
assigned_wide area place index number =
    if nat_lt MOST_AREA_BITS (width (record area { assigned = take (index + 1) area.assigned }))
    then Some (place_alone (with_key place (key.AssignedAt index)))
    else None

-- the first such index of an area
abbrev pub area_wide : Place → ℕ → Area → Option Location
area_wide place index area = first_from (assigned_wide area (in_area place index)) 0 area.assigned

-- the first place that a search finds in the areas of a slave
abbrev pub in_areas : (Place → ℕ → Area → Option Location) → Place → ℕ → Slave → Option Location
in_areas finds place index slave = first_from (finds (group_slave_place place index slave)) 0 slave.areas

-- the first place that a search finds in the slaves of a group
abbrev pub in_slaves : (Place → ℕ → Slave → Option Location) → Place → ℕ → Group → Option Location
in_slaves finds place index group = first_from (finds (group_at index group)) 0 group.slaves
