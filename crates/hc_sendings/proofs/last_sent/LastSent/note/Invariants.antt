use Rattle.std.proofs.Common.{◌≡◌, cond, length, take, Some}
use Rattle.std.specs.List.{list_any}
use Rattle.hc_events.specs.Sendings.{Named}
use Rattle.hc_sendings.specs.Stored.{last_sent_of}
use Rattle.hc_sendings.specs.Waiting.{IsTaskDatagram, is_named}
use Rattle.hc_records.specs.declared.slots.TheConstants.{SLOTS}
use Rattle.hc_sendings.proofs.last_sent.LastSent.note.Given as goal

abbrev pub invariant-loop-datagram : goal.invariant-loop-datagram
invariant-loop-datagram l = record {
  places : length l.self-inside.serials.items ≡ SLOTS;
  noted : (named : Named) → IsTaskDatagram named
      → last_sent_of l.self-inside.serials.items named
      ≡ cond (list_any (is_named named) (take l.datagram-index l.datagrams)) (Some l.serial) (last_sent_of l.fn.self named);
}
