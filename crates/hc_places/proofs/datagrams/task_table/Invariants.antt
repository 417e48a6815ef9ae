use Rattle.std.proofs.Common.{◌≡◌, ◌+◌, ◌*◌, ◌≤◌, length}
use Rattle.hc_records.specs.declared.limits.TheConstants.{MOST_DATAGRAM_BYTES}
use Rattle.hc_places.specs.DatagramUses.{loaded}
use Rattle.hc_places.proofs.datagrams.task_table.Given as goal

-- the datagrams so far are added
abbrev pub invariant-loop-number : goal.invariant-loop-number
invariant-loop-number l = record {
  table : l.table ≡ loaded l.task l.areas l.number;
  count : length l.table.datagrams ≡ l.number;
  short : l.table.outputs + l.table.inputs ≤ l.number * MOST_DATAGRAM_BYTES;
}
