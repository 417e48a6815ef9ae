use Rattle.std.proofs.Common.{◌≡◌, length, take}
use Rattle.hc_sendings.proofs.stored.StoredFrame.fill.Given as goal

abbrev pub invariant-loop-datagram : goal.invariant-loop-datagram
invariant-loop-datagram l = record {
  copied : l.self-inside.datagrams.items ≡ take l.datagram-index l.datagrams;
  count : length l.self-inside.datagrams.items ≡ l.datagram-index;
  serial : l.self-inside.serial ≡ l.fn.self.serial;
}
