use Rattle.std.proofs.Common.{◌≡◌, ◌≤◌, All, vec_len, vec_capacity}
use Rattle.hc_records.specs.declared.limits.TheConstants.{TASKS}
use Rattle.hc_conductor.specs.Openings.{AreEnds, IsUnused}
use Rattle.hc_conductor.specs.Together.{EachRing, LostNoBuffer}
use Rattle.hc_conductor.proofs.opening.rings.Given as goal

abbrev pub invariant-loop : goal.invariant-loop
invariant-loop l = record {
  senders : vec_len l.senders ≡ l.counter;
  receivers : vec_len l.receivers ≡ l.counter;
  room : TASKS ≤ vec_capacity l.senders;
  place : TASKS ≤ vec_capacity l.receivers;
  ends : AreEnds l.senders.items l.receivers.items;
  unused : All IsUnused l.senders.items;
  whole : EachRing LostNoBuffer l.senders.items l.receivers.items;
}
