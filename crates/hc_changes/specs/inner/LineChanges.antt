-- The differences in the line if a slave of one group gets other areas.
use Rattle.std.specs.Prelude.{map, option_to_list, slice_get}
use Rattle.hc_records.specs.declared.records.Declared.{Declared}
use Rattle.hc_groups.specs.declared.changes.AreasChange.{AreasChange}
use Rattle.hc_groups.specs.Rows.{areas_in_line, given_row, present_ranked}
use Rattle.hc_cuts.specs.LineChange.{LineChange}

-- the differences of the slave at the place of a change, in its group; none if the group has no such slave
abbrev pub slave_change_of : AreasChange → Declared → LineChange
slave_change_of change declared = record {
  first = change.place.rank;
  areas_before = map areas_in_line (present_ranked declared.present (option_to_list (slice_get declared.group.slaves change.place.slave)));
  areas_after = map areas_in_line (given_row change declared);
}
