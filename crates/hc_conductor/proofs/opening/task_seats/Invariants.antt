use Rattle.std.proofs.Common.{◌≡◌, ◌≤◌, ◌+◌, ◌++◌, All, length, map, vec_len, vec_capacity}
use Rattle.std.specs.List.{range_with_len}
use Rattle.std.specs.Vec.Iter.{into_iter_items, into_iter_len}
use Rattle.hc_records.specs.declared.limits.TheConstants.{TASKS}
use Rattle.hc_conductor.specs.Openings.{IsOpenable, output_bytes}
use Rattle.hc_conductor.specs.Seats.{seat_epoch, seat_of, sender, outputs_size}
use Rattle.hc_publish.specs.Seats.{seat_origin}
use Rattle.hc_conductor.proofs.opening.task_seats.Given as goal

abbrev pub invariant-loop-seat : goal.invariant-loop-seat
invariant-loop-seat l = record {
  seats : map seat_of l.all.items ++ into_iter_items l.seat-iterator ≡ into_iter_items l.initial.seat-iterator;
  room : vec_len l.all + into_iter_len l.seat-iterator ≤ vec_capacity l.all;
  few : vec_len l.all + into_iter_len l.seat-iterator ≤ TASKS;
  senders : map sender l.all.items ++ into_iter_items l.senders ≡ into_iter_items l.initial.senders;
  pairs : length (into_iter_items l.senders) ≡ length (into_iter_items l.seat-iterator);
  epochs : All (λ seat. seat_epoch seat ≡ 0) l.all.items;
  sizes : map outputs_size l.all.items ≡ map (output_bytes l.places) (range_with_len 0 (length l.all.items));
  openable : All (λ seat. IsOpenable (seat_origin seat).groups) (into_iter_items l.seat-iterator);
}
