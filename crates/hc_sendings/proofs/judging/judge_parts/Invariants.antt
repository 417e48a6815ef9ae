use Rattle.std.proofs.Common.{◌≡◌, ◌≤◌, drop, length}
use Rattle.std.specs.Prelude.{vec_capacity, vec_len}
use Rattle.hc_records.specs.Line.{line}
use Rattle.hc_sendings.specs.Walk.{outcomes_in}
use Rattle.hc_sendings.proofs.Walked.{after_it, due_by, parts_of}
use Rattle.hc_sendings.proofs.judging.judge_parts.Given as goal

abbrev pub invariant-loop-datagram : goal.invariant-loop-datagram
invariant-loop-datagram l = record {
  walked : outcomes_in (due_by (line l.plan) l.last_sent l.frame.serial l.frame.datagrams) l.arrival.parts
      ≡ after_it l.outcomes.items (outcomes_in (due_by (line l.plan) l.last_sent l.frame.serial (drop l.datagram-index l.frame.datagrams)) (parts_of l.parts));
  count : vec_len l.outcomes ≡ l.datagram-index;
  room : length l.frame.datagrams ≤ vec_capacity l.outcomes;
  capacity : vec_capacity l.initial.outcomes ≤ vec_capacity l.outcomes;
}
