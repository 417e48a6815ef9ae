use Rattle.std.proofs.Common.{◌≡◌, ◌*◌, ◌≤◌, take}
use Rattle.std.specs.Prelude.{sum_by}
use Rattle.hc_records.specs.Line.{line}
use Rattle.hc_sendings.specs.Parts.{own_share}
use Rattle.hc_sendings.proofs.parts.own_share.Given as goal

abbrev pub invariant-loop-datagram : goal.invariant-loop-datagram
invariant-loop-datagram l = record {
  bytes : l.bytes ≡ sum_by (own_share (line l.plan) l.task) (take l.datagram-index l.datagrams);
  most : l.bytes ≤ 1498 * l.datagram-index;
}
