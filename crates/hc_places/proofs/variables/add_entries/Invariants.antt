use Rattle.std.proofs.Common.{◌≡◌, ◌+◌, ◌++◌, drop}
use Rattle.std.specs.Prelude.{map}
use Rattle.hc_records.specs.Area.{entry_bits}
use Rattle.hc_records.specs.Image.{variables_from}
use Rattle.hc_places.specs.inner.Parts.{row_at}
use Rattle.hc_places.proofs.variables.add_entries.Given as goal

abbrev pub invariant-loop-entry : goal.invariant-loop-entry
invariant-loop-entry l = record {
  rows : l.rows.items ++ map (row_at l.carrier.task l.carrier.datagram l.carrier.dir) (variables_from l.bit (drop l.entry-index l.entries))
      ≡ l.fn.rows.items ++ map (row_at l.carrier.task l.carrier.datagram l.carrier.dir) (variables_from l.first l.entries);
  bits : l.bit + entry_bits (drop l.entry-index l.entries) ≡ l.first + entry_bits l.entries;
}
