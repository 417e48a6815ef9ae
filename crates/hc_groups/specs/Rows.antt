-- The slaves that a change concerns, by their ranks, and their areas in the line after it.
use Rattle.std.specs.Prelude.{◌≡◌, ℕ, ◌+◌, Bool, if◌then◌else◌, List, [], ◌++◌, length, map, option_map, option_to_list, slice_get}
use Rattle.std.specs.List.{flat_map}
use Rattle.std.specs.Option.{option_map_or}
use Rattle.hc_records.specs.declared.records.Area.{Area}
use Rattle.hc_records.specs.declared.records.Slave.{Slave}
use Rattle.hc_records.specs.declared.records.Declared.{Declared}
use Rattle.hc_groups.specs.declared.changes.AreasChange.{AreasChange}
use Rattle.hc_groups.specs.declared.prepared.Prepared.{Prepared}
use Rattle.hc_groups.specs.declared.prepared.Prepared.TheVariants.{Presence, Areas}
use Rattle.hc_groups.specs.Changes.{changed_groups, with_areas}

-- a declared slave, and whether its group is present
pub record Ranked : Type 0 where
  pub present : Bool
  pub slave : Slave

-- the slaves of a group, each with whether the group is present
abbrev pub present_ranked : Bool → List Slave → List Ranked
present_ranked present slaves = map (λ slave. record { present = present; slave = slave }) slaves

-- the declared slaves by rank: the first one has rank 1
abbrev pub by_rank : List Declared → List Ranked
by_rank groups = flat_map (λ declared. present_ranked declared.present declared.group.slaves) groups

-- the areas of a declared slave in the line: none if its group is not present
abbrev pub areas_in_line : Ranked → List Area
areas_in_line slave = if slave.present then slave.slave.areas else []

-- The slaves that a change concerns: those of the group that is connected or disconnected, or the one that gets other areas.

-- the rank of the first of them
abbrev pub first_rank_of : Prepared → ℕ
first_rank_of (Presence change) = change.first
first_rank_of (Areas change) = change.place.rank

-- the number of them
abbrev pub prepared_count : Prepared → ℕ
prepared_count (Presence change) = change.slaves
prepared_count (Areas change) = 1

-- the index of their group
abbrev pub group_of : Prepared → ℕ
group_of (Presence change) = change.group
group_of (Areas change) = change.place.group

-- the indexes of them in that group
abbrev pub named_by : Prepared → List Slave → List Slave
named_by (Presence change) slaves = slaves
named_by (Areas change) slaves = option_to_list (slice_get slaves change.place.slave)

-- their records; none if there is no group at the index
abbrev pub row : Prepared → List Declared → List Ranked
row change groups = option_map_or (λ declared. present_ranked declared.present (named_by change declared.group.slaves)) (slice_get groups (group_of change)) []

-- the slave of a group that gets other areas, with these
abbrev pub given_row : AreasChange → Declared → List Ranked
given_row change declared =
    present_ranked declared.present (option_to_list (option_map (with_areas change.areas) (slice_get declared.group.slaves change.place.slave)))

-- the ranks of the concerned slaves follow one another, and each other slave is equal, and as present, before the change and
-- after it
pub record ChangesRow (change : Prepared) (groups : List Declared) : Type 0 where
  pub front : List Ranked
  pub after_it : List Ranked
  pub first : first_rank_of change ≡ length front + 1
  pub many_before : length (row change groups) ≡ prepared_count change
  pub many_after : length (row change (changed_groups change groups)) ≡ prepared_count change
  pub before : by_rank groups ≡ front ++ (row change groups ++ after_it)
  pub after : by_rank (changed_groups change groups) ≡ front ++ (row change (changed_groups change groups) ++ after_it)
