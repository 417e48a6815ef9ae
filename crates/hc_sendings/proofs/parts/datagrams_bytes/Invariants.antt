use Rattle.std.proofs.Common.{◌≡◌, ◌*◌, ◌≤◌, take}
use Rattle.std.specs.Prelude.{sum_by}
use Rattle.hc_records.specs.Line.{line}
use Rattle.hc_sendings.specs.Parts.{own_bytes}
use Rattle.hc_sendings.proofs.parts.datagrams_bytes.Given as goal

abbrev pub invariant-loop-datagram : goal.invariant-loop-datagram
invariant-loop-datagram l = record {
  bytes : l.bytes ≡ sum_by (own_bytes (line l.plan)) (take l.datagram-index l.datagrams);
  most : l.bytes ≤ 1498 * l.datagram-index;
}
