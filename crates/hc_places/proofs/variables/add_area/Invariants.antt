use Rattle.std.proofs.Common.{◌≡◌, ◌+◌, ◌++◌, drop}
use Rattle.std.specs.Prelude.{map}
use Rattle.std.specs.List.{flat_map}
use Rattle.hc_records.specs.Area.{assigned_entries, entry_bits, entries_at, width}
use Rattle.hc_records.specs.Image.{variables_from}
use Rattle.hc_places.specs.inner.Parts.{row_at}
use Rattle.hc_places.proofs.variables.add_area.Given as goal

abbrev pub invariant-loop-index : goal.invariant-loop-index
invariant-loop-index l = record {
  rows : l.rows.items ++ map (row_at l.carrier.task l.carrier.datagram l.carrier.dir) (variables_from l.bit (flat_map (entries_at l.area.offered) (drop l.index-index l.area.assigned)))
      ≡ l.fn.rows.items ++ map (row_at l.carrier.task l.carrier.datagram l.carrier.dir) (variables_from l.fn.placed.bit (assigned_entries l.area));
  bits : l.bit + entry_bits (flat_map (entries_at l.area.offered) (drop l.index-index l.area.assigned)) ≡ l.fn.placed.bit + width l.area;
}
